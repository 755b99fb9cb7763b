-- The offsets by which code lets references of values go are those of a type's references, where the type has a layout.
use Rattle.std.proofs.Common.{◌≡◌, ℕ, zero, suc, ◌+◌, ◌≤◌, List, [], ◌∷◌, ◌++◌, length, map, Option, inl, refl, sym, ap, subst, ◌∙◌, arith}
use Rattle.std.specs.Prelude.{slice_get}
use Rattle.std.specs.Int.{next_multiple_of}
use Rattle.limbo_types.specs.Types as ty
use Rattle.limbo_types.specs.Types.{Ty, Tys}
use Rattle.limbo_types.specs.View.{tys_of}
use Rattle.limbo_layout.specs.Adts.{Def, parts, listed, held, held_in}
use Rattle.limbo_layout.specs.Layout.{Room, Laid, AllLaid, is_alone, of_tuple, of_adt, none_laid, more_laid, nothing, behind, in_order}
use Rattle.limbo_layout.proofs.Rooms.{held-listed, has_left, has_right}
use Rattle.limbo_layout.proofs.Ways.{not_itself}
use Rattle.core_code.specs.Terms.{parts_there}
use Rattle.core_code.proofs.Rounds.{rounds_give_rooms, there_below, Trail, trail_more, trail_short, Leads, leads_more, no_trail, no_leads}
use Rattle.value_words.specs.Contents.{NamesAt, AllNamesAt, one_name, of_array, of_byte, of_int, of_big, of_text, of_nothing, none_names, more_names}
use Rattle.value_words.specs.Contents as contents
use Rattle.value_frames.specs.Frames.{room_for, names_in, names_among, adt_names, names_at}

listed_of : (ts : List Ty) → listed (tys_of ts) ≡ ts
listed_of [] = refl
listed_of (t ∷ ts) = ap (λ (us : List Ty). t ∷ us) (listed_of ts)

module _ (defs : List Def) where
  mutual
    right : (k : ℕ) (ns : List ℕ) (t : Ty) (r : Room) → Laid defs t r → Trail defs ns → Leads defs ns (held t)
        → length defs ≤ k + length ns → NamesAt defs t (names_in defs (adt_names defs k) t)
    right k ns ty.Byte _ (is_alone t r e) trail h l = of_byte
    right k ns ty.Int _ (is_alone t r e) trail h l = of_int
    right k ns ty.Big _ (is_alone t r e) trail h l = of_big
    right k ns ty.Nothing _ (is_alone t r e) trail h l = of_nothing
    right k ns ty.Chars _ (is_alone t r e) trail h l = of_text
    right k ns ty.Nil _ (is_alone t r e) trail h l = one_name ty.Nil tt
    right k ns (ty.ArrayOf u) _ (is_alone t r e) trail h l = of_array u
    right k ns (ty.ListOf u) _ (is_alone t r e) trail h l = one_name (ty.ListOf u) tt
    right k ns (ty.ChanOf u) _ (is_alone t r e) trail h l = one_name (ty.ChanOf u) tt
    right k ns (ty.RefAdt n) _ (is_alone t r e) trail h l = one_name (ty.RefAdt n) tt
    right k ns (ty.RefPick n v) _ (is_alone t r e) trail h l = one_name (ty.RefPick n v) tt
    right k ns (ty.Module n) _ (is_alone t r e) trail h l = one_name (ty.Module n) tt
    right k ns (ty.Tuple ts) _ (is_alone t r e) trail h l = absurd cc
    right k ns (ty.Adt n) _ (is_alone t r e) trail h l = absurd cc
    right k ns _ _ (of_tuple ts rs hs) trail h l =
        contents.of_tuple ts rs (names_among defs (adt_names defs k) nothing ts) hs
        (all_right k ns nothing ts (listed ts) rs refl hs trail (subst (λ (ms : List ℕ). Leads defs ns ms) (held-listed ts) h) l)
    right zero ns _ _ (of_adt n d rs e hs) trail h l =
        let more = trail_short defs (n ∷ ns) (trail_more defs n ns trail (there_below defs n d e)
        (λ a. not_itself defs (ty.Adt n) (in_order rs) (of_adt n d rs e hs) n (inl refl) (h n n a (inl refl)))) in
        absurd (omega arith)
    right (suc k) ns _ _ (of_adt n d rs e hs) trail h l =
        let more = trail_more defs n ns trail (there_below defs n d e)
        (λ a. not_itself defs (ty.Adt n) (in_order rs) (of_adt n d rs e hs) n (inl refl) (h n n a (inl refl))) in
        let same : parts_there defs (slice_get defs n) ≡ parts d = ap (λ (o : Option Def). parts_there defs o) e in
        subst (λ (ps : List Ty). NamesAt defs (ty.Adt n) (names_among defs (adt_names defs k) nothing (tys_of ps))) (sym same)
        (contents.of_adt n d rs (names_among defs (adt_names defs k) nothing (tys_of (parts d))) e hs
        (all_right k (n ∷ ns) nothing (tys_of (parts d)) (parts d) rs (listed_of (parts d)) hs more (leads_more defs n d ns e h) (omega arith)))

    all_right : (k : ℕ) (ns : List ℕ) (w : Room) (ts : Tys) (us : List Ty) (rs : List Room) → listed ts ≡ us → AllLaid defs us rs → Trail defs ns
        → Leads defs ns (held_in us) → length defs ≤ k + length ns
        → AllNamesAt defs w us rs (names_among defs (adt_names defs k) w ts)
    all_right k ns w ty.NoTys _ _ e none_laid trail h l = none_names w
    all_right k ns w (ty.MoreTys u ts) _ _ e none_laid trail h l = absurd cc
    all_right k ns w ty.NoTys _ _ e (more_laid t us r rs a b) trail h l = absurd cc
    all_right k ns w (ty.MoreTys u ts) _ _ e (more_laid t us r rs a b) trail h l =
        let first : u ≡ t = cc in
        let rest : listed ts ≡ us = cc in
        let room : room_for defs u ≡ r = ap (λ y. room_for defs y) first ∙ rounds_give_rooms.rooms defs t r a in
        let names : List ℕ = names_in defs (adt_names defs k) t in
        let one : NamesAt defs t names = right k ns t r a trail (λ n m i j. h n m i (has_left (held t) (held_in us) m j)) l in
        let more : AllNamesAt defs (behind w r) us rs (names_among defs (adt_names defs k) (behind w r) ts) =
        all_right k ns (behind w r) ts us rs rest b trail (λ n m i j. h n m i (has_right (held t) (held_in us) m j)) l in
        subst (λ (y : Room). AllNamesAt defs w (t ∷ us) (r ∷ rs)
        (map (λ o. next_multiple_of w.size y.align + o) (names_in defs (adt_names defs k) u) ++ names_among defs (adt_names defs k) (behind w y) ts))
        (sym room)
        (subst (λ (y : Ty). AllNamesAt defs w (t ∷ us) (r ∷ rs)
        (map (λ o. next_multiple_of w.size r.align + o) (names_in defs (adt_names defs k) y) ++ names_among defs (adt_names defs k) (behind w r) ts))
        (sym first)
        (more_names w t us r rs names (names_among defs (adt_names defs k) (behind w r) ts) one more))

  pub names_right : (t : Ty) (r : Room) → Laid defs t r → NamesAt defs t (names_at defs t)
  names_right t r h = right (length defs) [] t r h (no_trail defs) (no_leads defs _) (omega arith)
