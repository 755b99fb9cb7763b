use Rattle.std.proofs.Common.{ap, sym, pos, ◌∙◌}
use Rattle.limbo_values.specs.Numbers.{value_of}
use Rattle.dis_meaning.specs.Words.{◌>>=◌}
use Rattle.dis_meaning.specs.Numbers.{with_number_at}
use Rattle.dis_memory.specs.Lists as lists
use Rattle.dis_memory.specs.Lists.{holder_of}
use Rattle.dis_places.specs.View.{view_process, view_world}
use Rattle.dis_results.proofs.Onward.{goes_same}
use Rattle.dis_lists.proofs.conses.cons_number.Goals as goal

pub returns-in-Ok-clause-goes : goal.returns-in-Ok-clause-goes
returns-in-Ok-clause-goes c =
    let m = c.args.memory.now in
    let x = view_world m in
    let p = view_process c.args.process.now in
    let i = c.args.inst in
    let k = c.args.kind in
    let n = c.in-Ok.number in
    λ o. goes_same m c.cons_of.new.memory c.args.process.now c.cons_of.new.process c.cons_of.result _ _
    (ap (λ a. a >>= λ z. lists.conses o x p i (with_number_at k (holder_of k) (pos 0) z)) c.in-Ok.ensures.number
    ∙ ap (λ k. lists.conses o x p i (with_number_at k (holder_of k) (pos 0) (value_of n))) (sym c.in-Ok.ensures.kind))
    (c.cons_of.ensures.goes o)
