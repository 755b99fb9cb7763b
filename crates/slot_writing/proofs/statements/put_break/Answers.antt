use Rattle.std.proofs.Common.{arith, length}
use Rattle.slot_writing.proofs.Declared.{behind_there}
use Rattle.slot_writing.proofs.statements.put_break.Goals as goal

pub overflow_sub-passes : goal.overflow_sub-passes
overflow_sub-passes c =
    let b = behind_there (length c.args.code.now.items) c.args.around.now c.args.number c.in-Some.one.now c.in-Some.ensures.lookup.3.0
    c.in-Some.ensures.lookup.1 c.requires in
    omega (arith, b.end, c.len.ensures, c.args.code.now.ok.0)
