use Rattle.std.proofs.Common.{ap}
use Rattle.dis_memory.specs.Numbers.{calculates}
use Rattle.dis_places.specs.View.{view_process, view_world}
use Rattle.dis_results.proofs.Onward.{goes_same}
use Rattle.dis_numbers.proofs.arithmetic.calculate.Goals as goal

pub returns-in-Int-clause-goes : goal.returns-in-Int-clause-goes
returns-in-Int-clause-goes c o =
    let m = c.args.memory.now in
    let p = c.args.process.now in
    goes_same m c.calculate_as.new.memory p c.calculate_as.new.process c.calculate_as.result _ _
    (ap (λ k. calculates o (view_world m) (view_process p) c.args.inst k c.args.operator) c.in-Int.is)
    (c.calculate_as.ensures.goes o)

pub returns-in-Byte-clause-goes : goal.returns-in-Byte-clause-goes
returns-in-Byte-clause-goes c o =
    let m = c.args.memory.now in
    let p = c.args.process.now in
    goes_same m c.calculate_as-in-Byte.new.memory p c.calculate_as-in-Byte.new.process c.calculate_as-in-Byte.result _ _
    (ap (λ k. calculates o (view_world m) (view_process p) c.args.inst k c.args.operator) c.in-Byte.is)
    (c.calculate_as-in-Byte.ensures.goes o)

pub returns-in-Big-clause-goes : goal.returns-in-Big-clause-goes
returns-in-Big-clause-goes c o =
    let m = c.args.memory.now in
    let p = c.args.process.now in
    goes_same m c.calculate_as-in-Big.new.memory p c.calculate_as-in-Big.new.process c.calculate_as-in-Big.result _ _
    (ap (λ k. calculates o (view_world m) (view_process p) c.args.inst k c.args.operator) c.in-Big.is)
    (c.calculate_as-in-Big.ensures.goes o)
