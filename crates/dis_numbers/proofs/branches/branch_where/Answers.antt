use Rattle.std.proofs.Common.{ap}
use Rattle.dis_memory.specs.Numbers.{branches}
use Rattle.dis_places.specs.View.{view_process, view_world}
use Rattle.dis_results.proofs.Onward.{goes_same}
use Rattle.dis_numbers.proofs.branches.branch_where.Goals as goal

pub returns-in-Byte-clause-goes : goal.returns-in-Byte-clause-goes
returns-in-Byte-clause-goes c =
    let m = c.args.memory.now in
    let p = c.args.process.now in
    goes_same m m p c.branch_numbers.new.process c.branch_numbers.result _ _
    (ap (λ k. branches c.args.code.now.object (view_world m) (view_process p) c.args.inst k c.args.comparison) c.in-Byte.is)
    c.branch_numbers.ensures.goes

pub returns-in-Big-clause-goes : goal.returns-in-Big-clause-goes
returns-in-Big-clause-goes c =
    let m = c.args.memory.now in
    let p = c.args.process.now in
    goes_same m m p c.branch_numbers-in-Big.new.process c.branch_numbers-in-Big.result _ _
    (ap (λ k. branches c.args.code.now.object (view_world m) (view_process p) c.args.inst k c.args.comparison) c.in-Big.is)
    c.branch_numbers-in-Big.ensures.goes
