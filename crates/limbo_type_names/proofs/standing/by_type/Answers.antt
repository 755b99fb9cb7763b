use Rattle.limbo_types.specs.View.{view_ty}
use Rattle.limbo_type_names.proofs.Filling.{needs_named, stands_by_type}
use Rattle.limbo_type_names.proofs.standing.by_type.Goals as goal

pub type_in-requires-clause-ready : goal.type_in-requires-clause-ready
type_in-requires-clause-ready c = λ q j h d.
    let n = c.args.known.naming.now in
    c.requires.ready j (needs_named n.table.now.entries.items n.implemented c.args.number c.args.scope c.args.of.now c.requires.is q j h d)

pub returns-in-Ok-clause-settles : goal.returns-in-Ok-clause-settles
returns-in-Ok-clause-settles c =
    let n = c.args.known.naming.now in
    stands_by_type n.table.now.entries.items n.implemented c.args.number c.args.scope c.args.of.now c.requires.is (view_ty c.in-Ok.counted.ty) c.in-Ok.ensures.means
