use Rattle.std.proofs.Common.{◌<◌, length, arith}
use Rattle.limbo_type_names.proofs.Filling.{sets_one}
use Rattle.limbo_type_names.proofs.standing.set_type.Goals as goal

pub stand-requires-clause-ready : goal.stand-requires-clause-ready
stand-requires-clause-ready c = rw c.deref.ensures.value c.requires.ready

pub returns-in-Ok-clause-sets : goal.returns-in-Ok-clause-sets
returns-in-Ok-clause-sets c =
    let a = c.requires.there in
    let b = c.requires.many in
    let l : c.args.number < length c.args.types.now.items = omega arith in
    sets_one c.args.naming.now c.args.number c.args.types.now.items c.in-Ok.found l c.in-Ok.ensures.settles
