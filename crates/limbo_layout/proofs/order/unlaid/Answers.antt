use Rattle.std.proofs.Common.{◌≡◌, ℕ, ◌++◌, List, map, sym, subst, true, inl, inr}
use Rattle.limbo_layout.specs.Adts.{Has, Def, held_in, types_of, variant_types, parts}
use Rattle.limbo_layout.specs.Paths.{IsAt}
use Rattle.limbo_layout.specs.View.{view_def, view_fields, view_variant}
use Rattle.limbo_layout.proofs.Rooms.{has_left, has_right, has_cases}
use Rattle.limbo_layout.proofs.Unlaid.{none_there, some_also, none_also, parts_hold}
use Rattle.limbo_layout.proofs.order.unlaid.Goals as goal

pub returns-in-Some-clause-some : goal.returns-in-Some-clause-some
returns-in-Some-clause-some c =
    let d : Def = view_def c.args.def.now in
    let h : Has (held_in (types_of d.fields)) c.in-Some.number = rw c.deref.ensures.value at c.in-Some.ensures.some.0 in
    (subst (λ (z : List ℕ). Has z c.in-Some.number) (sym (parts_hold d)) (has_left _ (held_in (variant_types d.picks)) c.in-Some.number h), c.in-Some.ensures.some.1)

pub returns-clause-some : goal.returns-clause-some
returns-clause-some c =
    let d : Def = view_def c.args.def.now in
    some_also c.unlaid_in_variants.result _ _
    (λ n p. let h : Has (held_in (variant_types d.picks)) n = rw c.deref-2.ensures.value at p.0 in (subst (λ (z : List ℕ). Has z n) (sym (parts_hold d)) (has_right (held_in (types_of d.fields)) _ n h), p.1))
    c.unlaid_in_variants.ensures.some

pub returns-clause-none : goal.returns-clause-none
returns-clause-none c =
    let d : Def = view_def c.args.def.now in
    let l : (n : ℕ) → Has (held_in (types_of d.fields)) n → IsAt c.args.laid.now n true = rw c.deref.ensures.value at (none_there c.unlaid_in_fields.result _ c.unlaid_in_fields.ensures.none (λ x h. c.in_default.not-Some x h)) in
    none_also c.unlaid_in_variants.result _ _
    (λ k n h. elim (has_cases (held_in (types_of d.fields)) (held_in (variant_types d.picks)) n (subst (λ (z : List ℕ). Has z n) (parts_hold d) h)) [
      | inl i ↦ l n i
      | inr i ↦ k n (rw c.deref-2.ensures.value i)
    ])
    c.unlaid_in_variants.ensures.none
