use Rattle.std.proofs.Common.{◌∙◌}
use Rattle.limbo_types.specs.View.{view_ty}
use Rattle.limbo_layout.specs.View.{view_defs}
use Rattle.core_parts.specs.Lowered.{view_lowered_all}
use Rattle.core_parts.specs.Nodes.{view_whole}
use Rattle.core_writing.proofs.Nodes.{parts_are}
use Rattle.core_writing.proofs.completing.complete_parts.Goals as goal

pub returns : goal.returns
returns c =
    let defs = view_defs c.args.extents.now in
    let l = view_lowered_all c.args.all in
    let exact = rw (c.deref.ensures.value, c.in_ok-ty.ensures {u = tt}) at ((c.in_ok-whole.ensures {u = tt}).exact) in
    (c.in_ok-l.ensures {u = tt}) defs
    ∙ parts_are defs (view_ty c.args.ty.now) c.args.operation l (view_whole c.in_ok-whole.whole) exact
