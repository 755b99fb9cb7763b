use Rattle.limbo_values.specs.Numbers.{kind_of, value_of}
use Rattle.dis_memory.specs.Places.{store_number}
use Rattle.dis_places.specs.View.{view_process, view_spot, view_world}
use Rattle.dis_results.proofs.Onward.{goes_on, halts_next}
use Rattle.dis_results.proofs.giving.finish_number.Goals as goal

pub returns-in-Ok-clause-goes : goal.returns-in-Ok-clause-goes
returns-in-Ok-clause-goes c =
    let n = c.args.number in
    goes_on c.args.memory.now c.store_number.new.memory c.args.process.now c.store_number.new.process c.advance.new.process
    (store_number (kind_of n) (view_world c.args.memory.now) (view_process c.args.process.now) (view_spot c.args.spot) (value_of n))
    c.in-Ok.ensures.stores c.advance.ensures

pub returns-in-Err-clause-goes : goal.returns-in-Err-clause-goes
returns-in-Err-clause-goes c =
    let n = c.args.number in
    halts_next c.in-Err.halt
    (store_number (kind_of n) (view_world c.args.memory.now) (view_process c.args.process.now) (view_spot c.args.spot) (value_of n))
    (c.in-Err.ensures {u = tt}).stores
