use Rattle.limbo_values.specs.Numbers.{value_of}
use Rattle.dis_memory.specs.Operands.{target}
use Rattle.dis_memory.specs.Places.{source_of, given_of}
use Rattle.dis_places.specs.View.{view_process, view_world}
use Rattle.dis_numbers.proofs.Branching.{numbers_branch}
use Rattle.dis_numbers.proofs.branches.branch_numbers.Goals as goal

pub returns-in-Ok-target-clause-goes : goal.returns-in-Ok-target-clause-goes
returns-in-Ok-target-clause-goes c =
    let m = c.args.memory.now in
    let p = c.args.process.now in
    let i = c.args.inst in
    numbers_branch m p c.branch-process.new.process c.compare.result c.in-Ok-target.pc c.stands.ensures c.branch-process.ensures
    c.args.code.now.object i (target c.args.code.now.object i.dst) c.in-Ok-target.ensures c.args.comparison
    (source_of c.args.kind (view_world m) (view_process p) i.src) (given_of c.args.kind (view_world m) (view_process p) i.middle)
    (value_of c.in-Ok.left) (value_of c.in-Ok-given_of.right)
    c.in-Ok.ensures.number c.in-Ok-given_of.ensures.number c.compare.ensures
