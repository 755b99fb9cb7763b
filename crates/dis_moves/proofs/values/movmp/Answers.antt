use Rattle.std.proofs.Common.{ap, sym, ◌∙◌}
use Rattle.dis_meaning.specs.Words.{◌>>=◌}
use Rattle.dis_places.specs.View.{view_process, view_world}
use Rattle.dis_places.specs.Words.{view_words}
use Rattle.dis_stores.proofs.Blocks.{halts_on}
use Rattle.dis_results.proofs.Onward.{goes_same, halts_same}
use Rattle.dis_moves.specs.Values.{value_named, value_to}
use Rattle.dis_moves.proofs.Chains.{as_movmp}
use Rattle.dis_moves.proofs.values.movmp.Goals as goal

pub returns-in-Ok-clause-goes : goal.returns-in-Ok-clause-goes
returns-in-Ok-clause-goes c =
    let m = c.args.memory.now in
    let x = view_world m in
    let p = view_process c.args.process.now in
    let i = c.args.inst in
    goes_same m c.value_to.new.memory c.args.process.now c.value_to.new.process c.value_to.result _ _
    (as_movmp c.args.code.now.object x p i ∙ ap (λ a. a >>= value_to x p i.dst) c.in-Ok.ensures.words
    ∙ ap (λ ws. value_to x p i.dst (view_words ws)) (sym c.deref_mut.ensures.value))
    c.value_to.ensures.goes

pub returns-in-Err-clause-goes : goal.returns-in-Err-clause-goes
returns-in-Err-clause-goes c =
    let o = c.args.code.now.object in
    let x = view_world c.args.memory.now in
    let p = view_process c.args.process.now in
    let i = c.args.inst in
    halts_same c.in-Err.halt _ _ (as_movmp o x p i) (halts_on c.in-Err.halt (value_named o x p i) (value_to x p i.dst) (c.in-Err.ensures {u = tt}).words)
