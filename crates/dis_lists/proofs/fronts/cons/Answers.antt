use Rattle.std.proofs.Common.{ap}
use Rattle.dis_meaning.specs.Words.{Found, ◌>>=◌}
use Rattle.dis_memory.specs.Lists as lists
use Rattle.dis_places.specs.View.{view_process, view_world}
use Rattle.dis_places.specs.Words.{view_words}
use Rattle.dis_results.proofs.Onward.{goes_same}
use Rattle.dis_lists.proofs.fronts.cons.Goals as goal

pub returns-in-Ok-clause-goes : goal.returns-in-Ok-clause-goes
returns-in-Ok-clause-goes c =
    let m = c.args.memory.now in
    let x = view_world m in
    let p = view_process c.args.process.now in
    let i = c.args.inst in
    λ o. goes_same m c.cons_at.new.memory c.args.process.now c.cons_at.new.process c.cons_at.result _ _
    (ap (λ a. a >>= λ d. lists.cons_at o x p i d (Found (view_words c.args.element.now))) c.in-Ok.ensures)
    (c.cons_at.ensures.goes o i)
