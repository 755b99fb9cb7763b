use Rattle.std.proofs.Common.{arith}
use Rattle.limbo_includes.proofs.Places.{index_more}
use Rattle.limbo_includes.proofs.shelf.index.Goals as goal

pub loop-number-preserved : goal.loop-number-preserved
loop-number-preserved c = record {
  within = omega arith;
  found = index_more c.args.texts.now c.loop-number.number c.index-texts-number.result c.loop-number.places c.insert.new.self (omega arith) (omega arith) (rw c.in_ok-clone.ensures.cases at c.in_ok-insert.ensures.updates) c.loop-number.invariant.found;
}
