use Rattle.std.proofs.Common.{arith}
use Rattle.limbo_lower.proofs.Looping.{behind_there, leaves_there, beyond_leaves}
use Rattle.limbo_lower.proofs.statements.end_of.Goals as goal

pub returns-in-None : goal.returns-in-None
returns-in-None c =
    let s = c.args.around in
    let i = (c.in-None.ensures {u = tt}).lookup in
    omega (arith, beyond_leaves s.end s.loops.now c.args.number (omega arith))

pub returns-in-Some : goal.returns-in-Some
returns-in-Some c =
    let s = c.args.around in
    let l = c.in-Some.one.now in
    let i = (c.in-Some.ensures {u = tt}).lookup in
    let b = behind_there s.end s.loops.now c.args.number l i.3.0 i.1 c.requires in
    omega (arith, b.end, leaves_there s.end s.loops.now c.args.number l i.3.0 i.1)
