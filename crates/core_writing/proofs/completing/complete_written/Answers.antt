use Rattle.std.proofs.Common.{map, ap, ◌∙◌}
use Rattle.limbo_types.specs.View.{view_ty}
use Rattle.limbo_layout.specs.View.{view_defs}
use Rattle.core_parts.specs.Lowered.{view_lowered_all}
use Rattle.core_parts.specs.Nodes.{printed, view_whole}
use Rattle.core_writing.proofs.Nodes.{print_is}
use Rattle.core_writing.proofs.completing.complete_written.Goals as goal

pub returns : goal.returns
returns c = λ t.
    let defs = view_defs c.args.extents.now in
    let l = view_lowered_all c.args.all in
    let m = view_whole c.in_ok-whole.whole in
    let exact = rw c.deref.ensures.value at ((c.in_ok-whole.ensures {u = tt}).exact) in
    (c.in_ok-l.ensures {u = tt}) defs ∙ ap (λ ps. printed defs ps m l) (c.in_ok-pieces.ensures {u = tt})
    ∙ print_is defs _ (map view_ty c.in_ok-types.types.items) t c.args.format.now l m exact ((c.in_ok-types.ensures {u = tt}) defs)
