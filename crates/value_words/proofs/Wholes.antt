-- What words stand for is whole.
use Rattle.std.proofs.Common.{◌≡◌, ℕ, List, Option, refl, sym, ap, ◌∙◌}
use Rattle.std.specs.Prelude.{ℤ}
use Rattle.limbo_types.specs.Types as ty
use Rattle.limbo_types.specs.Types.{Ty, Tys}
use Rattle.limbo_layout.specs.Adts as adts
use Rattle.limbo_layout.specs.Adts.{Def, parts}
use Rattle.limbo_layout.specs.Layout.{Room, nothing, in_order, of_adt}
use Rattle.limbo_values.specs.declared.number.Kind.{Kind}
use Rattle.limbo_values.specs.declared.number.Kind.TheVariants as kind
use Rattle.limbo_values.specs.Numbers.{InRange}
use Rattle.limbo_values.proofs.Ranges.{within}
use Rattle.limbo_typed.specs.Fitting.{of_kind}
use Rattle.limbo_meaning.specs.Values.{Value, Num, Parts, Ref, row, fitted, all_fitted}
use Rattle.core_code.specs.Whole.{with_parts}
use Rattle.core_code.proofs.Whole.{values_are_whole}
use Rattle.core_code.proofs.Names.{listed_row}
use Rattle.dis_meaning.specs.Words.{Word}
use Rattle.value_words.specs.Facts.{Facts}
use Rattle.value_words.specs.Stands.{IsReference, Stands, a_number, a_text, a_name, an_array, no_words, a_tuple, an_adt}
use Rattle.value_words.specs.Stands.{AllStand, none_stand, more_stand}

module _ (defs : List Def) where
  number_whole : (k : Kind) (z : ℤ) → InRange k z → Num z ≡ fitted defs (of_kind k) (Num z)
  number_whole kind.Byte z i = ap Num (sym (within kind.Byte z i))
  number_whole kind.Int z i = ap Num (sym (within kind.Int z i))
  number_whole kind.Big z i = ap Num (sym (within kind.Big z i))

  name_whole : (t : Ty) (n : Option ℕ) → IsReference t → Ref n ≡ fitted defs t (Ref n)
  name_whole ty.Nil n h = refl
  name_whole (ty.ListOf t) n h = refl
  name_whole (ty.ChanOf t) n h = refl
  name_whole (ty.RefAdt k) n h = refl
  name_whole (ty.RefPick k v) n h = refl
  name_whole (ty.Module k) n h = refl
  name_whole _ n h = absurd h

  pub parts_whole : (ts : List Ty) (vs : List Value) → vs ≡ all_fitted defs ts vs → Parts (row vs) ≡ with_parts defs ts (Parts (row vs))
  parts_whole ts vs e =
      ap (λ (us : List Value). Parts (row us)) e ∙ ap (λ (us : List Value). Parts (row (all_fitted defs ts us))) (sym (listed_row vs))

  module _ (facts : Facts) (words : List Word) where
    mutual
      pub stands_whole : (at : ℕ) (t : Ty) (v : Value) → Stands defs facts words at t v → v ≡ fitted defs t v
      stands_whole _ _ _ (a_number at k z e i) = number_whole k z i
      stands_whole _ _ _ (a_text at r s e h) = refl
      stands_whole _ _ _ (a_name at t r n i e h) = name_whole t n i
      stands_whole _ _ _ (an_array at t r p e h) = refl
      stands_whole _ _ _ (no_words at) = refl
      stands_whole _ _ _ (a_tuple at ts rs vs l all) =
          parts_whole (adts.listed ts) vs (all_whole at nothing (adts.listed ts) rs vs all)
          ∙ sym (values_are_whole.tuples defs ts (Parts (row vs)))
      stands_whole _ _ _ (an_adt at n d rs vs e l all) =
          parts_whole (parts d) vs (all_whole at nothing (parts d) rs vs all)
          ∙ sym (values_are_whole.adts defs n d (in_order rs) (Parts (row vs)) (of_adt n d rs e l) e)

      pub all_whole : (at : ℕ) (w : Room) (ts : List Ty) (rs : List Room) (vs : List Value) → AllStand defs facts words at w ts rs vs
          → vs ≡ all_fitted defs ts vs
      all_whole _ _ _ _ _ (none_stand at w) = refl
      all_whole _ _ _ _ _ (more_stand at w t ts r rs v vs a b) =
          let e = stands_whole _ t v a in
          let f = all_whole at _ ts rs vs b in
          cc
