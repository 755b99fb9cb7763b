use Rattle.std.proofs.Common.{ap}
use Rattle.dis_meaning.specs.Words.{Found, ◌>>=◌}
use Rattle.dis_places.specs.View.{view_process, view_world}
use Rattle.dis_results.proofs.Indexed.{placed}
use Rattle.dis_results.proofs.Onward.{goes_same}
use Rattle.dis_results.proofs.indexes.indx.Goals as goal

pub returns-in-Ok-clause-goes : goal.returns-in-Ok-clause-goes
returns-in-Ok-clause-goes c =
    let m = c.args.memory.now in
    let x = view_world m in
    let p = view_process c.args.process.now in
    λ o. goes_same m c.index_into.new.memory c.args.process.now c.index_into.new.process c.index_into.result _ _
    (ap (λ a. a >>= (λ es. Found es) >>= placed o x p c.args.inst) c.in-Ok.ensures)
    (c.index_into.ensures.goes o)
