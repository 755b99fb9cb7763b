use Rattle.std.proofs.Common.{ap}
use Rattle.dis_meaning.specs.Words.{◌>>=◌}
use Rattle.dis_places.specs.View.{view_process, view_world}
use Rattle.dis_results.proofs.Onward.{goes_same}
use Rattle.dis_moves.specs.Moves.{consed_from}
use Rattle.dis_moves.proofs.moves.consm.Goals as goal

pub returns-in-Ok-clause-goes : goal.returns-in-Ok-clause-goes
returns-in-Ok-clause-goes c =
    let m = c.args.memory.now in
    let x = view_world m in
    let p = view_process c.args.process.now in
    λ o. goes_same m c.cons_from.new.memory c.args.process.now c.cons_from.new.process c.cons_from.result _ _
    (ap (λ a. a >>= consed_from o x p c.args.inst) c.in-Ok.ensures)
    (c.cons_from.ensures.goes o)
