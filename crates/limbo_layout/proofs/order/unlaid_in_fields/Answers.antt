use Rattle.std.proofs.Common.{◌≡◌, ℕ, ◌+◌, ◌++◌, drop, sym, ap, ◌∙◌, arith}
use Rattle.std.proofs.lemmas.List.{at_drop_more}
use Rattle.limbo_types.specs.View.{view_ty}
use Rattle.limbo_layout.specs.Adts.{held, held_in, types_of}
use Rattle.limbo_layout.specs.View.{view_fields}
use Rattle.limbo_layout.proofs.Unlaid.{none_there, unlaid_all, unlaid_only, unlaid_found}
use Rattle.limbo_layout.proofs.order.unlaid_in_fields.Goals as goal

pub returns-in-Some-clause-some : goal.returns-in-Some-clause-some
returns-in-Some-clause-some c =
    let own = held (view_ty c.field-item.result.ty) in
    let rest = held_in (types_of (view_fields (drop (c.loop-field.field-index + 1) c.args.fields.now))) in
    let e : held_in (types_of (view_fields (drop c.loop-field.field-index c.args.fields.now))) ≡ own ++ rest =
    at_drop_more (λ fs. held_in (types_of (view_fields fs))) c.args.fields.now c.loop-field.field-index c.field-item.result (omega arith) ∙ ap (λ x. held (view_ty x.ty) ++ rest) (sym c.field-item.is) in
    (unlaid_found own rest _ _ e c.loop-field.invariant.only c.in-Some.number c.in-Some.ensures.some.0, c.in-Some.ensures.some.1)

pub loop-field-preserved : goal.loop-field-preserved
loop-field-preserved c =
    let own = held (view_ty c.field-item.result.ty) in
    let rest = held_in (types_of (view_fields (drop (c.loop-field.field-index + 1) c.args.fields.now))) in
    let e : held_in (types_of (view_fields (drop c.loop-field.field-index c.args.fields.now))) ≡ own ++ rest =
    at_drop_more (λ fs. held_in (types_of (view_fields fs))) c.args.fields.now c.loop-field.field-index c.field-item.result (omega arith) ∙ ap (λ x. held (view_ty x.ty) ++ rest) (sym c.field-item.is) in
    record {
      all = unlaid_all c.args.laid.now own rest _ _ e (none_there c.unlaid_in_type.result _ c.unlaid_in_type.ensures.none (λ x h. c.in_default.not-Some x h)) c.loop-field.invariant.all;
      only = unlaid_only own rest _ _ e c.loop-field.invariant.only;
    }
