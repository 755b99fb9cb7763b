use Rattle.std.proofs.Common.{arith, ap}
use Rattle.std.proofs.lemmas.Grind.{common_steps}
use Rattle.limbo_types.specs.Types as ty
use Rattle.limbo_types.proofs.View.{view_ty-Int}
use Rattle.limbo_layout.specs.View.{view_defs}
use Rattle.core_frames.specs.Sizes.{node_size}
use Rattle.core_sizing.proofs.Laid.{type-found, type-none}
use Rattle.core_sizing.proofs.frames.variable_leaves.Goals as goal

pub returns-in-Some : goal.returns-in-Some
returns-in-Some c =
    let l = c.in-Some.ensures.lookup in
    let size = ap (node_size (view_defs c.args.extents.now)) (type-found c.args.variables.now c.args.variable ty.Int c.in-Some.it.now
    (omega arith) l.1) in
    grind (arith, common_steps)

pub returns-in-None : goal.returns-in-None
returns-in-None c =
    let l = c.in-None.ensures.lookup in
    let size = ap (node_size (view_defs c.args.extents.now)) (type-none c.args.variables.now c.args.variable ty.Int (omega arith)) in
    let int = ap (node_size (view_defs c.args.extents.now)) view_ty-Int in
    grind (arith, common_steps)
