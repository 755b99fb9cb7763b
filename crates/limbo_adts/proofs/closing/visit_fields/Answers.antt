use Rattle.std.proofs.Common.{◌≡◌, ◌+◌, ◌++◌, take, sym, ap, ◌∙◌, arith}
use Rattle.std.proofs.lemmas.List.{take_more}
use Rattle.limbo_types.specs.View.{view_ty}
use Rattle.limbo_layout.specs.Adts.{types_of}
use Rattle.limbo_layout.specs.View.{view_fields}
use Rattle.limbo_adts.specs.Closed.{named, named_in}
use Rattle.limbo_adts.proofs.Found.{visited_more, fields-push}
use Rattle.limbo_adts.proofs.closing.visit_fields.Goals as goal

pub loop-field-preserved : goal.loop-field-preserved
loop-field-preserved c =
    let fs = c.args.fields.now in
    let i = c.loop-field.field-index in
    let e : named_in (types_of (view_fields (take (i + 1) fs))) ≡ named_in (types_of (view_fields (take i fs))) ++ named (view_ty c.field-item.result.ty) =
    ap (λ xs. named_in (types_of (view_fields xs))) (take_more fs i c.field-item.result (omega arith)) ∙ fields-push (take i fs) _ ∙ ap (λ x. named_in (types_of (view_fields (take i fs))) ++ named (view_ty x.ty)) (sym c.field-item.is) in
    rw e (visited_more _ _ _ _ _ _ _ _ c.loop-field.invariant c.in_ok-visit_type.ensures)
