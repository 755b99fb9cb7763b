-- The references of a value that has a layout stand in it.
use Rattle.std.proofs.Common.{◌≡◌, ℕ, zero, suc, ◌+◌, ◌≤◌, List, [], ◌∷◌, ◌++◌, map, length, Option, Some, refl, sym, ap, subst, arith}
use Rattle.std.specs.Int.{next_multiple_of}
use Rattle.limbo_types.specs.Types as ty
use Rattle.limbo_types.specs.Types.{Ty, Tys}
use Rattle.limbo_types.specs.View.{tys_of}
use Rattle.limbo_layout.specs.Adts.{Def, listed, parts}
use Rattle.limbo_layout.specs.Layout.{Room, Laid, AllLaid, is_alone, of_tuple, of_adt, none_laid, more_laid, alone, all_behind, behind, nothing, reference}
use Rattle.limbo_layout.specs.Laying.{AllBelow}
use Rattle.limbo_layout.proofs.Rooms.{all_grow, rounded_grows}
use Rattle.limbo_layout.proofs.Sound.{below_more}
use Rattle.core_code.specs.Terms.{parts_there}
use Rattle.core_code.proofs.Rounds.{rounds_give_rooms}
use Rattle.value_frames.specs.Frames.{adt_names, names_among, names_in}
use Rattle.value_rooms.specs.Laws.{NamesLieInside}

tys_of-listed : (ts : Tys) → tys_of (listed ts) ≡ ts
tys_of-listed ty.NoTys = refl
tys_of-listed (ty.MoreTys t ts) = ap (ty.MoreTys t) (tys_of-listed ts)

below_append : (n : ℕ) (xs ys : List ℕ) → AllBelow n xs → AllBelow n ys → AllBelow n (xs ++ ys)
below_append n [] ys h k = k
below_append n (x ∷ xs) ys h k = (h.0, below_append n xs ys h.1 k)

below_moved : (at n m : ℕ) (os : List ℕ) → at + n ≤ m → AllBelow n os → AllBelow m (map (λ o. at + o) os)
below_moved at n m [] l h = tt
below_moved at n m (o ∷ os) l h = (let b = h.0 in omega arith, below_moved at n m os l h.1)

one_inside : (r : Room) → reference ≡ r → AllBelow r.size (0 ∷ [])
one_inside r e = subst (λ (z : Room). AllBelow z.size (0 ∷ [])) e (omega arith, tt)

alone_inside : (defs : List Def) (k : ℕ) (t : Ty) (r : Room) → alone t ≡ Some r → AllBelow r.size (names_in defs (adt_names defs k) t)
alone_inside defs k (ty.Tuple ts) r e = absurd cc
alone_inside defs k (ty.Adt n) r e = absurd cc
alone_inside defs k ty.Byte r e = tt
alone_inside defs k ty.Int r e = tt
alone_inside defs k ty.Big r e = tt
alone_inside defs k ty.Nothing r e = tt
alone_inside defs k ty.Chars r e = tt
alone_inside defs k _ r e = one_inside r cc

mutual
  inside : (defs : List Def) (k : ℕ) (t : Ty) (r : Room) → Laid defs t r → AllBelow r.size (names_in defs (adt_names defs k) t)
  inside defs k _ _ (is_alone t r e) = alone_inside defs k t r e
  inside defs k _ _ (of_tuple ts rs hs) =
      below_more _ _ _ (rounded_grows (all_behind nothing rs))
      (subst (λ (us : Tys). AllBelow (all_behind nothing rs).size (names_among defs (adt_names defs k) nothing us)) (tys_of-listed ts)
      (all_inside defs k (listed ts) rs hs nothing))
  inside defs zero _ _ (of_adt n d rs e hs) = tt
  inside defs (suc k) _ _ (of_adt n d rs e hs) =
      below_more _ _ _ (rounded_grows (all_behind nothing rs))
      (subst (λ (o : Option Def). AllBelow (all_behind nothing rs).size (names_among defs (adt_names defs k) nothing (tys_of (parts_there defs o)))) (sym e)
      (all_inside defs k (parts d) rs hs nothing))

  all_inside : (defs : List Def) (k : ℕ) (us : List Ty) (rs : List Room) → AllLaid defs us rs → (w : Room)
      → AllBelow (all_behind w rs).size (names_among defs (adt_names defs k) w (tys_of us))
  all_inside defs k _ _ none_laid w = tt
  all_inside defs k _ _ (more_laid t us r rs a b) w =
      let own = names_in defs (adt_names defs k) t in
      let at = next_multiple_of w.size r.align in
      let size = (all_behind (behind w r) rs).size in
      let grows = all_grow (behind w r) rs in
      subst (λ (z : Room). AllBelow size (map (λ o. next_multiple_of w.size z.align + o) own
      ++ names_among defs (adt_names defs k) (behind w z) (tys_of us))) (sym (rounds_give_rooms.rooms defs t r a))
      (below_append size (map (λ o. at + o) own) (names_among defs (adt_names defs k) (behind w r) (tys_of us))
      (below_more (behind w r).size size (map (λ o. at + o) own) grows
      (below_moved at r.size (behind w r).size own (omega arith) (inside defs k t r a)))
      (all_inside defs k us rs b (behind w r)))

pub names_lie_inside : NamesLieInside
names_lie_inside defs t r h = inside defs (length defs) t r h
