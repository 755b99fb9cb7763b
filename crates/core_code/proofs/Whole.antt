-- Values of adts are whole: where types have layouts, adts lie in one another no deeper than there are adts.
use Rattle.std.proofs.Common.{◌≡◌, ℕ, zero, suc, ◌+◌, ◌≤◌, List, [], ◌∷◌, length, Option, Some, refl, sym, ap, subst, ◌∙◌, arith}
use Rattle.std.proofs.Common.{length-append, inl, true, false}
use Rattle.std.specs.Prelude.{slice_get}
use Rattle.limbo_types.specs.Types.{Ty, Tys, Tuple, Adt, NoTys, MoreTys}
use Rattle.limbo_types.specs.View.{tys_of}
use Rattle.limbo_layout.specs.Adts as adts
use Rattle.limbo_layout.specs.Adts.{Def, Has, parts, held, held_in}
use Rattle.limbo_layout.specs.Layout.{Room, Laid, AllLaid, is_alone, of_tuple, of_adt, none_laid, more_laid, alone, in_order}
use Rattle.limbo_layout.proofs.Rooms.{held-listed, has_left, has_right, in_adt}
use Rattle.limbo_layout.proofs.Ways.{not_itself}
use Rattle.limbo_meaning.specs.Values.{Value, Values, NoValues, MoreValues, Parts, nothing, row, listed, parts_of, first_in, rest_in}
use Rattle.limbo_meaning.specs.Values.{formed}
use Rattle.limbo_meaning.specs.Values.{all_formed, by_def, adt_formed, fitted, all_fitted, references, all_references}
use Rattle.core_code.specs.Terms.{count_of, count_all, parts_there, part_types}
use Rattle.core_code.specs.Whole.{with_parts, ValuesAreWhole}
use Rattle.core_code.proofs.Rounds.{Trail, Leads, there_below, trail_more, trail_short, leads_more, no_trail, no_leads}

listed_back : (ts : List Ty) → adts.listed (tys_of ts) ≡ ts
listed_back [] = refl
listed_back (t ∷ ts) = ap (λ (us : List Ty). t ∷ us) (listed_back ts)

-- ---- the same value, however much deeper one looks

-- a type without adts in it asks for none
alone_same : (f g : ℕ → Value → Value) (t : Ty) (r : Room) (v : Value) → alone t ≡ Some r → formed f t v ≡ formed g t v
alone_same f g (Tuple ts) r v e = absurd cc
alone_same f g (Adt n) r v e = absurd cc
alone_same f g _ r v e = refl

-- an adt that is met on the way is one more on it
on_trail : (defs : List Def) (n : ℕ) (d : Def) (rs : List Room) (ns : List ℕ) → slice_get defs n ≡ Some d → AllLaid defs (parts d) rs
    → Trail defs ns → Leads defs ns (n ∷ []) → Trail defs (n ∷ ns)
on_trail defs n d rs ns e hs trail h =
    trail_more defs n ns trail (there_below defs n d e)
    (λ a. not_itself defs (Adt n) (in_order rs) (of_adt n d rs e hs) n (inl refl) (h n n a (inl refl)))

longer : (defs : List Def) (n : ℕ) (d : Def) (rs : List Room) (ns : List ℕ) → slice_get defs n ≡ Some d → AllLaid defs (parts d) rs
    → Trail defs ns → Leads defs ns (n ∷ []) → suc (length ns) ≤ length defs
longer defs n d rs ns e hs trail h = trail_short defs (n ∷ ns) (on_trail defs n d rs ns e hs trail h)

mutual
  same : (defs : List Def) (j k : ℕ) (ns : List ℕ) (t : Ty) (r : Room) (v : Value) → Laid defs t r → Trail defs ns → Leads defs ns (held t)
      → length defs ≤ j + length ns → length defs ≤ k + length ns → formed (adt_formed defs j) t v ≡ formed (adt_formed defs k) t v
  same defs j k ns _ _ v (is_alone t r e) trail h l m = alone_same (adt_formed defs j) (adt_formed defs k) t r v e
  same defs j k ns _ _ v (of_tuple ts rs hs) trail h l m =
      ap Parts (all_same defs j k ns ts (adts.listed ts) rs (parts_of v) refl hs trail
      (subst (λ (ms : List ℕ). Leads defs ns ms) (held-listed ts) h) l m)
  same defs zero k ns _ _ v (of_adt n d rs e hs) trail h l m = absurd (let a = longer defs n d rs ns e hs trail h in omega arith)
  same defs (suc j) zero ns _ _ v (of_adt n d rs e hs) trail h l m = absurd (let a = longer defs n d rs ns e hs trail h in omega arith)
  same defs (suc j) (suc k) ns _ _ v (of_adt n d rs e hs) trail h l m =
      ap (λ (o : Option Def). by_def (formed (adt_formed defs j)) (all_formed (adt_formed defs j)) o v) e
      ∙ ap Parts (all_same defs j k (n ∷ ns) (tys_of (parts d)) (parts d) rs (parts_of v) (listed_back (parts d)) hs
      (on_trail defs n d rs ns e hs trail h) (leads_more defs n d ns e h) (omega arith) (omega arith))
      ∙ sym (ap (λ (o : Option Def). by_def (formed (adt_formed defs k)) (all_formed (adt_formed defs k)) o v) e)

  all_same : (defs : List Def) (j k : ℕ) (ns : List ℕ) (us : Tys) (ts : List Ty) (rs : List Room) (vs : Values) → adts.listed us ≡ ts
      → AllLaid defs ts rs → Trail defs ns → Leads defs ns (held_in ts) → length defs ≤ j + length ns → length defs ≤ k + length ns
      → all_formed (adt_formed defs j) us vs ≡ all_formed (adt_formed defs k) us vs
  all_same defs j k ns NoTys _ _ vs e none_laid trail h l m = refl
  all_same defs j k ns (MoreTys u us) _ _ vs e none_laid trail h l m = absurd cc
  all_same defs j k ns NoTys _ _ vs e (more_laid t ts r rs a b) trail h l m = absurd cc
  all_same defs j k ns (MoreTys u us) _ _ vs e (more_laid t ts r rs a b) trail h l m =
      let f : t ≡ u = cc in
      let g : adts.listed us ≡ ts = cc in
      let x = same defs j k ns t r (first_in vs) a trail (λ n q i p. h n q i (has_left (held t) (held_in ts) q p)) l m in
      let y = all_same defs j k ns us ts rs (rest_in vs) g b trail (λ n q i p. h n q i (has_right (held t) (held_in ts) q p)) l m in
      let z : formed (adt_formed defs j) u (first_in vs) ≡ formed (adt_formed defs k) u (first_in vs) =
      subst (λ (c : Ty). formed (adt_formed defs j) c (first_in vs) ≡ formed (adt_formed defs k) c (first_in vs)) f x in
      ap (λ (c : Value). MoreValues c (all_formed (adt_formed defs j) us (rest_in vs))) z
      ∙ ap (λ (cs : Values). MoreValues (formed (adt_formed defs k) u (first_in vs)) cs) y

-- ---- whole values

module _ (defs : List Def) where
  formed_row : (us : Tys) (vs : Values)
      → all_formed (adt_formed defs (length defs)) us vs ≡ row (all_fitted defs (adts.listed us) (listed vs))
  formed_row NoTys vs = refl
  formed_row (MoreTys t us) NoValues = ap (λ (cs : Values). MoreValues (fitted defs t nothing) cs) (formed_row us NoValues)
  formed_row (MoreTys t us) (MoreValues v vs) = ap (λ (cs : Values). MoreValues (fitted defs t v) cs) (formed_row us vs)

  -- an adt's parts, one step in
  parts_within : (n : ℕ) (d : Def) (rs : List Room) (v : Value) → slice_get defs n ≡ Some d → AllLaid defs (parts d) rs
      → fitted defs (Adt n) v ≡ Parts (all_formed (adt_formed defs (length defs)) (tys_of (parts d)) (parts_of v))
  parts_within n d rs v e hs = go (length defs) refl
    where
      go : (m : ℕ) → length defs ≡ m
          → adt_formed defs m n v ≡ Parts (all_formed (adt_formed defs (length defs)) (tys_of (parts d)) (parts_of v))
      go zero f = absurd (let a = there_below defs n d e in omega arith)
      go (suc k) f =
          let first = trail_more defs n [] (no_trail defs) (there_below defs n d e) (λ a. absurd (let z : false ≡ true = a in cc)) in
          ap (λ (o : Option Def). by_def (formed (adt_formed defs k)) (all_formed (adt_formed defs k)) o v) e
          ∙ ap Parts (all_same defs k (length defs) (n ∷ []) (tys_of (parts d)) (parts d) rs (parts_of v) (listed_back (parts d)) hs first
          (leads_more defs n d [] e (no_leads defs (n ∷ []))) (omega arith) (omega arith))

  whole_adt : (n : ℕ) (d : Def) (rs : List Room) (v : Value) → slice_get defs n ≡ Some d → AllLaid defs (parts d) rs
      → fitted defs (Adt n) v ≡ with_parts defs (parts d) v
  whole_adt n d rs v e hs =
      parts_within n d rs v e hs ∙ ap Parts (formed_row (tys_of (parts d)) (parts_of v))
      ∙ ap (λ (ts : List Ty). with_parts defs ts v) (listed_back (parts d))

  counted : (us : Tys) → length (all_references (all_formed (adt_formed defs (length defs)) us NoValues)) ≡ count_all defs (adts.listed us)
  counted NoTys = refl
  counted (MoreTys t us) =
      let rest = all_formed (adt_formed defs (length defs)) us NoValues in
      let a = length-append (references (fitted defs t nothing)) (all_references rest) in
      let b = counted us in
      omega arith

  counted_adt : (n : ℕ) (d : Def) (rs : List Room) → slice_get defs n ≡ Some d → AllLaid defs (parts d) rs
      → count_of defs (Adt n) ≡ count_all defs (part_types defs (Adt n))
  counted_adt n d rs e hs =
      ap (λ (v : Value). length (references v)) (parts_within n d rs nothing e hs) ∙ counted (tys_of (parts d))
      ∙ ap (λ (ts : List Ty). count_all defs ts) (listed_back (parts d))
      ∙ sym (ap (λ (o : Option Def). count_all defs (parts_there defs o)) e)

pub values_are_whole : ValuesAreWhole
values_are_whole = record {
  tuples = λ defs ts v. ap Parts (formed_row defs ts (parts_of v));
  adts = λ defs n d r v h e.
      let i = in_adt defs (Adt n) r h n refl in
      let f : i.0 ≡ d = let g : slice_get defs n ≡ Some i.0 = i.2 in cc in
      whole_adt defs n d i.1 v e (subst (λ (c : Def). AllLaid defs (parts c) i.1) f i.3);
  counts_of_tuples = λ defs ts. counted defs ts;
  counts_of_adts = λ defs n r h. let i = in_adt defs (Adt n) r h n refl in counted_adt defs n i.0 i.1 i.2 i.3;
}
