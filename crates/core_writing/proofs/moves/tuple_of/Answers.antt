use Rattle.std.proofs.Common.{map, ◌∙◌}
use Rattle.limbo_types.specs.View.{view_ty}
use Rattle.limbo_types.proofs.View.{view_ty-Tuple}
use Rattle.limbo_layout.specs.View.{view_defs}
use Rattle.core_writing.proofs.Numbered.{tuple_is}
use Rattle.core_writing.proofs.moves.tuple_of.Goals as goal

pub returns-clause-exact : goal.returns-clause-exact
returns-clause-exact c =
    let defs = view_defs c.args.extents.now in
    (c.in_ok-whole.ensures {u = tt}).exact
    ∙ tuple_is defs c.args.from (map view_ty c.args.types.items) c.args.into c.args.slots.now c.in_ok-parts.parts.items _
    (view_ty-Tuple c.args.types) (c.in_ok-parts.ensures {u = tt} defs)
