use Rattle.std.proofs.Common.{◌≡◌, ℕ, ◌+◌, ◌++◌, ◌≤◌, List, length, get_or, map, drop, sym, ap, ◌∙◌, arith}
use Rattle.std.proofs.lemmas.List.{at_drop_more}
use Rattle.limbo_layout.specs.Adts.{held_in, types_of, variant_types}
use Rattle.limbo_layout.specs.View.{view_fields, view_variant}
use Rattle.limbo_layout.specs.declared.def.Variant as code_variant
use Rattle.limbo_layout.proofs.Rooms.{held_in-append}
use Rattle.limbo_layout.proofs.Unlaid.{none_there, unlaid_all, unlaid_only, unlaid_found}
use Rattle.limbo_layout.proofs.order.unlaid_in_variants.Goals as goal

next_variant : (picks : List code_variant.Variant) (i : ℕ) (v : code_variant.Variant) → i + 1 ≤ length picks → v ≡ get_or picks i v
    → held_in (variant_types (map view_variant (drop i picks))) ≡ held_in (types_of (view_fields v.fields.items)) ++ held_in (variant_types (map view_variant (drop (i + 1) picks)))
next_variant picks i v l e =
    let rest = variant_types (map view_variant (drop (i + 1) picks)) in
    at_drop_more (λ vs. held_in (variant_types (map view_variant vs))) picks i v (omega arith)
    ∙ ap (λ x. held_in (types_of (view_fields x.fields.items) ++ rest)) (sym e)
    ∙ held_in-append (types_of (view_fields v.fields.items)) rest

pub returns-in-Some-clause-some : goal.returns-in-Some-clause-some
returns-in-Some-clause-some c =
    let own = held_in (types_of (view_fields c.variant-item.result.fields.items)) in
    let rest = held_in (variant_types (map view_variant (drop (c.loop-variant.variant-index + 1) c.args.picks.now))) in
    let e = next_variant c.args.picks.now c.loop-variant.variant-index c.variant-item.result (omega arith) c.variant-item.is in
    (unlaid_found own rest _ _ e c.loop-variant.invariant.only c.in-Some.number (rw c.deref.ensures.value at c.in-Some.ensures.some.0), c.in-Some.ensures.some.1)

pub loop-variant-preserved : goal.loop-variant-preserved
loop-variant-preserved c =
    let own = held_in (types_of (view_fields c.variant-item.result.fields.items)) in
    let rest = held_in (variant_types (map view_variant (drop (c.loop-variant.variant-index + 1) c.args.picks.now))) in
    let e = next_variant c.args.picks.now c.loop-variant.variant-index c.variant-item.result (omega arith) c.variant-item.is in
    record {
      all = unlaid_all c.args.laid.now own rest _ _ e (rw c.deref.ensures.value at (none_there c.unlaid_in_fields.result _ c.unlaid_in_fields.ensures.none (λ x h. c.in_default.not-Some x h))) c.loop-variant.invariant.all;
      only = unlaid_only own rest _ _ e c.loop-variant.invariant.only;
    }
