use Rattle.std.proofs.Common.{ap, sym, ◌∙◌}
use Rattle.dis_meaning.specs.Words.{Found, ◌>>=◌}
use Rattle.dis_memory.specs.Lists.{conses}
use Rattle.dis_places.specs.View.{view_process, view_world}
use Rattle.dis_places.specs.Words.{view_words}
use Rattle.dis_stores.proofs.Blocks.{halts_on}
use Rattle.dis_results.proofs.Onward.{goes_same, halts_same}
use Rattle.dis_moves.specs.Values.{value_named}
use Rattle.dis_moves.proofs.Chains.{as_consmp}
use Rattle.dis_moves.proofs.values.consmp.Goals as goal

pub returns-in-Ok-clause-goes : goal.returns-in-Ok-clause-goes
returns-in-Ok-clause-goes c =
    let m = c.args.memory.now in
    let o = c.args.code.now.object in
    let x = view_world m in
    let p = view_process c.args.process.now in
    let i = c.args.inst in
    goes_same m c.cons.new.memory c.args.process.now c.cons.new.process c.cons.result _ _
    (as_consmp o x p i ∙ ap (λ a. a >>= λ element. conses o x p i (Found element)) c.in-Ok.ensures.words
    ∙ ap (λ ws. conses o x p i (Found (view_words ws))) (sym c.deref.ensures.value))
    (c.cons.ensures.goes o)

pub returns-in-Err-clause-goes : goal.returns-in-Err-clause-goes
returns-in-Err-clause-goes c =
    let o = c.args.code.now.object in
    let x = view_world c.args.memory.now in
    let p = view_process c.args.process.now in
    let i = c.args.inst in
    halts_same c.in-Err.halt _ _ (as_consmp o x p i)
    (halts_on c.in-Err.halt (value_named o x p i) (λ element. conses o x p i (Found element)) (c.in-Err.ensures {u = tt}).words)
