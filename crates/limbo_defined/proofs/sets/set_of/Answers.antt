use Rattle.std.proofs.Common.{arith, rules}
use Rattle.limbo_defined.proofs.Setting.{set_step, set_end}
use Rattle.limbo_defined.proofs.sets.set_of.Goals as goal

pub loop-number-preserved : goal.loop-number-preserved
loop-number-preserved c = set_step c.loop-number.set c.insert.new.self c.loop-number.number c.args.labels.now c.index-labels-number.result
    c.loop-number.invariant (omega arith) c.index-labels-number.is (search rules)

pub returns : goal.returns
returns c = set_end c.loop-number.set c.args.labels.now c.loop-number.number c.loop-number.invariant (omega arith)
