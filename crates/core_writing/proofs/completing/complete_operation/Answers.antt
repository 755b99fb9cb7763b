use Rattle.std.proofs.Common.{◌∙◌}
use Rattle.limbo_types.specs.View.{view_ty}
use Rattle.limbo_layout.specs.View.{view_defs}
use Rattle.core_parts.specs.Lowered.{view_lowered_all}
use Rattle.core_writing.proofs.Nodes.{operates}
use Rattle.core_writing.proofs.completing.complete_operation.Goals as goal

pub returns-in_ok-l-in_default : goal.returns-in_ok-l-in_default
returns-in_ok-l-in_default c = λ us.
    let d = c.in_default in
    (c.in_ok-l-in_default.ensures {u = tt})
    ∙ operates (view_defs c.args.extents.now) us (view_ty c.args.ty.now) c.args.operation c.count-references.result
    (view_lowered_all c.args.all) d.not-List d.not-Tuple d.not-Adt c.count-references.ensures.count
