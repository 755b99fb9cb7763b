use Rattle.std.proofs.Common.{ap, ◌∙◌}
use Rattle.limbo_types.specs.View.{view_ty}
use Rattle.limbo_layout.specs.View.{view_defs}
use Rattle.core_parts.specs.Lowered.{view_lowered_all}
use Rattle.core_parts.specs.Nodes.{picked, view_moved}
use Rattle.core_writing.proofs.Nodes.{part_is}
use Rattle.core_writing.proofs.completing.complete_part.Goals as goal

pub returns : goal.returns
returns c =
    let defs = view_defs c.args.extents.now in
    let l = view_lowered_all c.args.all in
    let v = view_moved c.in_ok-moved.moved in
    let from = rw c.deref.ensures.value at c.slot_in-from.ensures in
    (c.in_ok-l.ensures {u = tt}) ∙ ap (λ t. picked t c.args.part v l) (c.in_ok-ty.ensures {u = tt})
    ∙ part_is defs _ (view_ty c.args.ty.now) c.args.part l v c.slot_in-from.result (view_ty c.in_ok-whole.whole)
    (c.in_ok-whole.ensures {u = tt} defs) from (c.in_ok-moved.ensures {u = tt}).exact
