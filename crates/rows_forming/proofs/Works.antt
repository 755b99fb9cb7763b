-- What a node makes of operands that are put together is what they are put together as.
use Rattle.std.proofs.Common.{◌≡◌, ℕ, zero, suc, ◌+◌, ◌≤◌, true, List, [], ◌∷◌, ◌++◌, length, take, drop, Option, Some, None}
use Rattle.std.proofs.Common.{refl, sym, ap, subst, ◌∙◌, arith, length-append}
use Rattle.std.specs.Prelude.{slice_get}
use Rattle.limbo_types.specs.Types as ty
use Rattle.limbo_types.specs.Types.{Ty}
use Rattle.limbo_layout.specs.Adts.{Def, parts, listed, Variant, Field, types_of, variant_types, tag}
use Rattle.limbo_layout.specs.Layout.{Laid, Room}
use Rattle.limbo_typed.specs.Fitting.{AllStand, TakesFields, Gives}
use Rattle.limbo_typed.specs.declared.operation.Operation.{Operation}
use Rattle.limbo_typed.specs.declared.operation.Operation.TheVariants as operation
use Rattle.limbo_meaning.specs.Values.{Value, Parts, row, fitted}
use Rattle.limbo_meaning.specs.Evaluation.{passes_on}
use Rattle.limbo_meaning.specs.Operations.{adt_parts}
use Rattle.limbo_meaning.specs.Trees.{Operate}
use Rattle.limbo_meaning.specs.Process.{Shared}
use Rattle.core_code.specs.Code.{Program, Gather}
use Rattle.core_code.specs.Machine as code
use Rattle.core_code.specs.Slots as core
use Rattle.core_code.specs.Slots.{Slot, Forms, Holds}
use Rattle.core_code.specs.Terms.{part_numbers, adt_numbers, variant_of}
use Rattle.core_code.proofs.Whole.{values_are_whole}
use Rattle.value_frames.specs.Forming.{begun, formed}
use Rattle.value_frames.specs.Frames.{Boxed, form_of}
use Rattle.rows_forming.proofs.Made.{row_made, variant_made, long_drop}

-- ---- as many operands as types

as_long : (us ts : List Ty) → AllStand us ts → length us ≡ length ts
as_long [] [] a = refl
as_long [] (t ∷ ts) a = absurd a
as_long (u ∷ us) [] a = absurd a
as_long (u ∷ us) (t ∷ ts) a = ap suc (as_long us ts a.1)

types_long : (fs : List Field) → length (types_of fs) ≡ length fs
types_long [] = refl
types_long (f ∷ fs) = ap suc (types_long fs)

picks_long : (ps : List Variant) (k : ℕ) (w : Variant) → slice_get ps k ≡ Some w
    → length (variant_types (take k ps)) + length w.fields ≤ length (variant_types ps)
picks_long [] k w e = absurd cc
picks_long (p ∷ ps) zero w e =
    let f : p ≡ w = cc in
    let l = length-append (types_of p.fields) (variant_types ps) in
    let g = types_long p.fields in
    let h = ap (λ (v : Variant). length v.fields) f in
    omega (arith, l, g, h)
picks_long (p ∷ ps) (suc k) w e =
    let a = picks_long ps k w e in
    let l = length-append (types_of p.fields) (variant_types ps) in
    let g = length-append (types_of p.fields) (variant_types (take k ps)) in
    omega (arith, l, g, a)

tag_there : (ps : List Variant) (k : ℕ) (w : Variant) → slice_get ps k ≡ Some w → tag ps ≡ ty.Int ∷ []
tag_there [] k w e = absurd cc
tag_there (p ∷ ps) k w e = refl

-- ---- values

module _ (defs : List Def) where
  abbrev IsWhole : Ty → Value → Type 0
  IsWhole t v = v ≡ fitted defs t v

  adt_made : (n : ℕ) (d : Def) (r : Room) (v : Option ℕ) (us : List Ty) (vs : List Value) → slice_get defs n ≡ Some d → Laid defs (ty.Adt n) r
      → TakesFields d v us → length us ≡ length vs
      → IsWhole (ty.Adt n) (formed (begun defs (ty.Adt n) v) (adt_numbers defs (Some d) v (length vs)) vs)
      → fitted defs (ty.Adt n) (Parts (row (adt_parts (Some d) v vs)))
      ≡ formed (begun defs (ty.Adt n) v) (adt_numbers defs (Some d) v (length vs)) vs
  adt_made n d r None us vs e laid fields same whole =
      let l = as_long us (types_of d.fields) fields.1 in
      let f = length-append (types_of d.fields) (variant_types d.picks) in
      let g = length-append (tag d.picks) (types_of d.fields ++ variant_types d.picks) in
      row_made defs (ty.Adt n) (parts d) (λ v. values_are_whole.adts defs n d r v laid e) vs (omega (arith, l, f, g, same)) whole
  adt_made n d r (Some k) us vs e laid fields same whole =
      let w = fields.0 in
      let rest : List Ty = types_of d.fields ++ variant_types d.picks in
      let c : ℕ = length d.fields in
      let z : ℕ = length (variant_types (take k d.picks)) in
      let l = as_long us (types_of d.fields ++ types_of w.fields) fields.2 in
      let l1 = length-append (types_of d.fields) (types_of w.fields) in
      let l2 = types_long d.fields in
      let l3 = types_long w.fields in
      let l4 = picks_long d.picks k w fields.1 in
      let l5 = length-append (types_of d.fields) (variant_types d.picks) in
      let l6 = long_drop c rest in
      let l7 = long_drop z (drop c rest) in
      let l8 = long_drop c vs in
      variant_made defs (ty.Adt n) (parts d) (λ v. values_are_whole.adts defs n d r v laid e) k c z rest vs
      (ap (λ (us : List Ty). us ++ rest) (tag_there d.picks k w fields.1))
      (omega (arith, l5, l2)) (omega (arith, l, l1, l2, same)) (omega (arith, l6, l5, l2, l4))
      (omega (arith, l7, l6, l5, l2, l4, l8, l, l1, l3, same)) whole

  -- A tuple, or a value of an adt.
  pub value_made : (t : Ty) (r : Room) (o : Operation) (us : List Ty) (vs : List Value) → passes_on o ≡ true → Laid defs t r → Gives defs o us t
      → length us ≡ length vs → IsWhole t (formed (begun defs t (variant_of defs o)) (part_numbers defs o (length vs)) vs)
      → (limit : ℕ) (program : Program) → program.adts ≡ defs → (w : Shared) (p : code.Process) (into n : ℕ)
      → core.operands_of (core.slot p.frame.slots into) ≡ vs
      → code.does limit program w p (Gather t (Operate o) into n)
      ≡ code.goes_on w p (core.put p.frame.slots into (Holds (formed (begun defs t (variant_of defs o)) (part_numbers defs o (length vs)) vs)))
  value_made t r operation.Tuple us vs passes laid gives same whole limit program e w p into n here =
      let l = as_long us (listed gives.0) gives.2 in
      ap (λ (us : List Value). code.goes_on w p (core.put p.frame.slots into (Holds (fitted program.adts t (Parts (row us)))))) here
      ∙ ap (λ (d : List Def). code.goes_on w p (core.put p.frame.slots into (Holds (fitted d t (Parts (row vs)))))) e
      ∙ ap (λ (v : Value). code.goes_on w p (core.put p.frame.slots into (Holds v)))
      (row_made defs t (listed gives.0)
      (λ v. ap (λ (u : Ty). fitted defs u v) gives.1 ∙ values_are_whole.tuples defs gives.0 v) vs (omega (arith, l, same)) whole)
  value_made t r (operation.Adt a v) us vs passes laid gives same whole limit program e w p into n here =
      let d = gives.def in
      ap (λ (us : List Value). code.goes_on w p (core.put p.frame.slots into
      (Holds (fitted program.adts t (Parts (row (adt_parts (slice_get program.adts a) v us))))))) here
      ∙ ap (λ (d : List Def). code.goes_on w p (core.put p.frame.slots into (Holds (fitted d t (Parts (row (adt_parts (slice_get d a) v vs))))))) e
      ∙ ap (λ (v : Value). code.goes_on w p (core.put p.frame.slots into (Holds v)))
      (made t gives.result (slice_get defs a) gives.there laid whole)
    where
      made : (u : Ty) → u ≡ ty.Adt a → (o : Option Def) → o ≡ Some gives.def → Laid defs u r
          → IsWhole u (formed (begun defs u v) (adt_numbers defs o v (length vs)) vs)
          → fitted defs u (Parts (row (adt_parts o v vs))) ≡ formed (begun defs u v) (adt_numbers defs o v (length vs)) vs
      made u f o g l h =
          let l' = subst (λ (z : Ty). Laid defs z r) f l in
          let h' = subst (λ (z : Ty). IsWhole z (formed (begun defs z v) (adt_numbers defs o v (length vs)) vs)) f h in
          let h'' = subst (λ (d : Option Def). IsWhole (ty.Adt a) (formed (begun defs (ty.Adt a) v) (adt_numbers defs d v (length vs)) vs)) g h' in
          let result = adt_made a gives.def r v us vs gives.there l' gives.fields same h'' in
          subst (λ (z : Ty). fitted defs z (Parts (row (adt_parts o v vs))) ≡ formed (begun defs z v) (adt_numbers defs o v (length vs)) vs) (sym f)
          (subst (λ (d : Option Def). fitted defs (ty.Adt a) (Parts (row (adt_parts d v vs)))
          ≡ formed (begun defs (ty.Adt a) v) (adt_numbers defs d v (length vs)) vs) (sym g) result)
  value_made t r o us vs passes laid gives same whole limit program e w p into n here = absurd cc

  -- It has a record of its own.
  pub boxed_made : (t : Ty) (o : Operation) (us : List Ty) → passes_on o ≡ true → Gives defs o us t → form_of t ≡ Boxed
  boxed_made t operation.Tuple us e g = ap form_of g.1
  boxed_made t (operation.Adt n v) us e g = ap form_of g.result
  boxed_made t o us e g = absurd cc
