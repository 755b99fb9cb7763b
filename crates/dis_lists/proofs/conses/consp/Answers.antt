use Rattle.std.proofs.Common.{ap, [], ◌∷◌}
use Rattle.dis_meaning.specs.Words.{Refer, Found, ◌>>=◌}
use Rattle.dis_memory.specs.Lists as lists
use Rattle.dis_places.specs.View.{view_process, view_world}
use Rattle.dis_results.proofs.Onward.{goes_same}
use Rattle.dis_lists.proofs.conses.consp.Goals as goal

pub returns-in-Ok-clause-goes : goal.returns-in-Ok-clause-goes
returns-in-Ok-clause-goes c =
    let m = c.args.memory.now in
    let x = view_world m in
    let p = view_process c.args.process.now in
    let i = c.args.inst in
    λ o. goes_same m c.cons.new.memory c.args.process.now c.cons.new.process c.cons.result _ _
    (ap (λ a. a >>= λ r. lists.conses o x p i (Found (Refer r ∷ []))) c.in-Ok.ensures.block)
    (c.cons.ensures.goes o)
