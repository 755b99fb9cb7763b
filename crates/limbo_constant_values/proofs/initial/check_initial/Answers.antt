use Rattle.std.proofs.Common.{arith}
use Rattle.limbo_constant_values.proofs.Filling.{as_many_here, told_bad}
use Rattle.limbo_constant_values.proofs.Starting.{told_initial}
use Rattle.limbo_constant_values.proofs.initial.check_initial.Goals as goal

pub returns-in-Err-clause-not_constant : goal.returns-in-Err-clause-not_constant
returns-in-Err-clause-not_constant c = λ n e.
    told_bad c.args.naming.now c.args.table.now c.args.implemented n c.requires.naming.by_table c.requires.naming.by_module (c.in-Err.ensures.not_constant n e)

pub returns-clause-initial : goal.returns-clause-initial
returns-clause-initial c =
    told_initial c.args.naming.now c.args.table.now c.args.implemented c.requires.naming.by_table c.requires.naming.by_module
    (λ k l. let a = as_many_here c.args.naming.now c.args.table.now c.requires.naming.by_table in c.loop-number.invariant k (omega arith))
