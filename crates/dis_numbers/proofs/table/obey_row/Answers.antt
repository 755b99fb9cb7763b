use Rattle.std.proofs.Common.{ap}
use Rattle.dis_memory.specs.Numbers.{by_row}
use Rattle.dis_places.specs.View.{view_process, view_world}
use Rattle.dis_numbers.specs.Rows.{view_row}
use Rattle.dis_results.proofs.Onward.{goes_same}
use Rattle.dis_numbers.proofs.table.obey_row.Goals as goal

pub returns-in-Calculates-clause-goes : goal.returns-in-Calculates-clause-goes
returns-in-Calculates-clause-goes c =
    let m = c.args.memory.now in
    let p = c.args.process.now in
    goes_same m c.calculate.new.memory p c.calculate.new.process c.calculate.result _ _
    (ap (λ r. by_row c.args.code.now.object (view_world m) (view_process p) c.args.inst (view_row r)) c.in-Calculates.is)
    (c.calculate.ensures.goes c.args.code.now.object)

pub returns-in-Shifts-clause-goes : goal.returns-in-Shifts-clause-goes
returns-in-Shifts-clause-goes c =
    let m = c.args.memory.now in
    let p = c.args.process.now in
    goes_same m c.shift_by.new.memory p c.shift_by.new.process c.shift_by.result _ _
    (ap (λ r. by_row c.args.code.now.object (view_world m) (view_process p) c.args.inst (view_row r)) c.in-Shifts.is)
    (c.shift_by.ensures.goes c.args.code.now.object)

pub returns-in-Converts-clause-goes : goal.returns-in-Converts-clause-goes
returns-in-Converts-clause-goes c =
    let m = c.args.memory.now in
    let p = c.args.process.now in
    goes_same m c.convert.new.memory p c.convert.new.process c.convert.result _ _
    (ap (λ r. by_row c.args.code.now.object (view_world m) (view_process p) c.args.inst (view_row r)) c.in-Converts.is)
    (c.convert.ensures.goes c.args.code.now.object)

pub returns-in-Moves-clause-goes : goal.returns-in-Moves-clause-goes
returns-in-Moves-clause-goes c =
    let m = c.args.memory.now in
    let p = c.args.process.now in
    goes_same m c.move_number.new.memory p c.move_number.new.process c.move_number.result _ _
    (ap (λ r. by_row c.args.code.now.object (view_world m) (view_process p) c.args.inst (view_row r)) c.in-Moves.is)
    (c.move_number.ensures.goes c.args.code.now.object)
