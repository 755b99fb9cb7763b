-- The parts of a type with a layout have the references that the whole has: adts lie in one another less deep than there are adts, so it
-- doesn't matter how many rounds are gone further.
use Rattle.std.proofs.Common.{◌≡◌, ℕ, zero, suc, ◌+◌, ◌≤◌, inl, List, [], ◌∷◌, length, take, Option, Some, refl, sym, ap, subst}
use Rattle.std.proofs.Common.{◌∙◌, arith, length-append}
use Rattle.std.specs.Prelude.{slice_get}
use Rattle.limbo_types.specs.Types.{Ty, Tys, Tuple, Adt, NoTys, MoreTys}
use Rattle.limbo_types.specs.View.{tys_of}
use Rattle.limbo_layout.specs.Adts.{Def, parts, listed, held, held_in}
use Rattle.limbo_layout.specs.Layout.{Room, Laid, AllLaid, is_alone, of_tuple, of_adt, none_laid, more_laid, alone, in_order}
use Rattle.limbo_layout.proofs.Rooms.{held-listed, has_left, has_right, in_adt}
use Rattle.limbo_layout.proofs.Ways.{not_itself}
use Rattle.limbo_meaning.specs.Values.{Value, NoValues, nothing, formed, all_formed, by_def, adt_formed, references, all_references}
use Rattle.core_code.specs.Terms.{count_of, count_all, part_types, parts_there}
use Rattle.core_code.proofs.Rounds.{Trail, Leads, trail_more, trail_short, leads_more, there_below, no_trail, no_leads}
use Rattle.value_extents.specs.Laws.{PartsMakeWholes}
use Rattle.value_extents.proofs.Rounds.{count-row, references_small}

tys_of-listed : (ts : Tys) → tys_of (listed ts) ≡ ts
tys_of-listed NoTys = refl
tys_of-listed (MoreTys t ts) = ap (MoreTys t) (tys_of-listed ts)

-- how many references a type has, and types in a row, where adts are formed so
abbrev references_of : (ℕ → Value → Value) → Ty → ℕ
references_of adt t = length (references (formed adt t nothing))

abbrev references_among : (ℕ → Value → Value) → List Ty → ℕ
references_among adt ts = length (all_references (all_formed adt (tys_of ts) NoValues))

-- the same by a layout
abbrev mutual
  laid_count : (defs : List Def) (t : Ty) (r : Room) → Laid defs t r → ℕ
  laid_count defs _ _ (is_alone t r e) = references_of (λ n v. nothing) t
  laid_count defs _ _ (of_tuple ts rs hs) = all_count defs (listed ts) rs hs
  laid_count defs _ _ (of_adt n d rs e hs) = all_count defs (parts d) rs hs

  all_count : (defs : List Def) (ts : List Ty) (rs : List Room) → AllLaid defs ts rs → ℕ
  all_count defs _ _ none_laid = 0
  all_count defs _ _ (more_laid t ts r rs a b) = laid_count defs t r a + all_count defs ts rs b

alone_count : (adt other : ℕ → Value → Value) (t : Ty) (r : Room) → alone t ≡ Some r → references_of adt t ≡ references_of other t
alone_count adt other (Tuple ts) r e = absurd cc
alone_count adt other (Adt n) r e = absurd cc
alone_count adt other _ r e = refl

mutual
  right : (defs : List Def) (k : ℕ) (ns : List ℕ) (t : Ty) (r : Room) (h : Laid defs t r) → Trail defs ns → Leads defs ns (held t)
      → length defs ≤ k + length ns → references_of (adt_formed defs k) t ≡ laid_count defs t r h
  right defs k ns _ _ (is_alone t r e) trail h l = alone_count (adt_formed defs k) (λ n v. nothing) t r e
  right defs k ns _ _ (of_tuple ts rs hs) trail h l =
      ap (λ (us : Tys). length (all_references (all_formed (adt_formed defs k) us NoValues))) (sym (tys_of-listed ts))
      ∙ all_right defs k ns (listed ts) rs hs trail (subst (λ (ms : List ℕ). Leads defs ns ms) (held-listed ts) h) l
  right defs zero ns _ _ (of_adt n d rs e hs) trail h l =
      let more = trail_short defs (n ∷ ns) (trail_more defs n ns trail (there_below defs n d e)
      (λ a. not_itself defs (Adt n) (in_order rs) (of_adt n d rs e hs) n (inl refl) (h n n a (inl refl)))) in
      absurd (omega arith)
  right defs (suc k) ns _ _ (of_adt n d rs e hs) trail h l =
      let more = trail_more defs n ns trail (there_below defs n d e)
      (λ a. not_itself defs (Adt n) (in_order rs) (of_adt n d rs e hs) n (inl refl) (h n n a (inl refl))) in
      let adt = adt_formed defs k in
      ap (λ (o : Option Def). length (references (by_def (formed adt) (all_formed adt) o nothing))) e
      ∙ all_right defs k (n ∷ ns) (parts d) rs hs more (leads_more defs n d ns e h) (omega arith)

  all_right : (defs : List Def) (k : ℕ) (ns : List ℕ) (ts : List Ty) (rs : List Room) (h : AllLaid defs ts rs) → Trail defs ns
      → Leads defs ns (held_in ts) → length defs ≤ k + length ns → references_among (adt_formed defs k) ts ≡ all_count defs ts rs h
  all_right defs k ns _ _ none_laid trail h l = refl
  all_right defs k ns _ _ (more_laid t ts r rs a b) trail h l =
      let e = right defs k ns t r a trail (λ n m i j. h n m i (has_left (held t) (held_in ts) m j)) l in
      let f = all_right defs k ns ts rs b trail (λ n m i j. h n m i (has_right (held t) (held_in ts) m j)) l in
      let g = length-append (references (formed (adt_formed defs k) t nothing))
      (all_references (all_formed (adt_formed defs k) (tys_of ts) NoValues)) in
      omega arith

tuples : (defs : List Def) (ts : Tys) → count_all defs (listed ts) ≡ count_of defs (Tuple ts)
tuples defs ts =
    sym (count-row defs (listed ts))
    ∙ ap (λ (us : Tys). length (all_references (all_formed (adt_formed defs (length defs)) us NoValues))) (tys_of-listed ts)

of_parts : (defs : List Def) (n : ℕ) (d : Def) (rs : List Room) (e : slice_get defs n ≡ Some d) → AllLaid defs (parts d) rs
    → count_all defs (parts d) ≡ count_of defs (Adt n)
of_parts defs n d rs e hs =
    sym (count-row defs (parts d))
    ∙ all_right defs (length defs) [] (parts d) rs hs (no_trail defs) (no_leads defs (held_in (parts d))) (omega arith)
    ∙ sym (right defs (length defs) [] (Adt n) (in_order rs) (of_adt n d rs e hs)
    (no_trail defs) (no_leads defs (held (Adt n))) (omega arith))

adts : (defs : List Def) (n : ℕ) (d : Def) (r : Room) → slice_get defs n ≡ Some d → Laid defs (Adt n) r
    → count_all defs (parts d) ≡ count_of defs (Adt n)
adts defs n d r e h =
    let i = in_adt defs (Adt n) r h n refl in
    let f : i.0 ≡ d = let g : slice_get defs n ≡ Some i.0 = i.2 in cc in
    of_parts defs n d i.1 e (subst (λ (z : Def). AllLaid defs (parts z) i.1) f i.3)

count-take : (defs : List Def) (ts : List Ty) (n : ℕ) → count_all defs (take n ts) ≤ count_all defs ts
count-take defs [] zero = omega arith
count-take defs [] (suc n) = omega arith
count-take defs (t ∷ ts) zero = omega arith
count-take defs (t ∷ ts) (suc n) = let a = count-take defs ts n in omega arith

alone_first : (defs : List Def) (t : Ty) (r : Room) → alone t ≡ Some r → part_types defs t ≡ []
alone_first defs (Tuple ts) r e = absurd cc
alone_first defs (Adt n) r e = absurd cc
alone_first defs _ r e = refl

first : (defs : List Def) (t : Ty) (r : Room) (n : ℕ) → Laid defs t r → count_all defs (take n (part_types defs t)) ≤ count_of defs t
first defs _ _ n (is_alone t r e) =
    let a = count-take defs (part_types defs t) n in
    let b : count_all defs (part_types defs t) ≡ 0 = ap (count_all defs) (alone_first defs t r e) in
    omega arith
first defs _ _ n (of_tuple ts rs hs) = let a = count-take defs (listed ts) n in let b = tuples defs ts in omega arith
first defs _ _ n (of_adt m d rs e hs) =
    let a = count-take defs (part_types defs (Adt m)) n in
    let b : count_all defs (part_types defs (Adt m)) ≡ count_all defs (parts d) =
    ap (λ (o : Option Def). count_all defs (parts_there defs o)) e in
    let f = of_parts defs m d rs e hs in
    omega arith

pub parts_make_wholes : PartsMakeWholes
parts_make_wholes = record { tuples = tuples; adts = adts; first = first; bytes = references_small }
