use Rattle.std.proofs.Common.{map, arith}
use Rattle.slot_code.specs.View.{view_function}
use Rattle.dis_objects.specs.Sites.{made_of}
use Rattle.dis_objects.proofs.Filled.{next_small}
use Rattle.dis_objects.proofs.room.most_bytes.Goals as goal

pub step-requires-clause-small : goal.step-requires-clause-small
step-requires-clause-small c =
    (next_small (map view_function c.args.functions.now) (made_of c.loop-inst.making) c.args.code.now c.loop-inst.inst-index
    c.inst-item.result 65536 c.loop-inst-test.true c.inst-item.is (omega (arith, c.loop-inst.invariant.walked, c.requires))).1
