use Rattle.std.proofs.Common.{ap, ◌∙◌}
use Rattle.dis_meaning.specs.Words.{◌>>=◌}
use Rattle.dis_memory.specs.Arrays.{of_size}
use Rattle.dis_places.specs.View.{view_process, view_world}
use Rattle.dis_results.proofs.Indexed.{placed}
use Rattle.dis_results.proofs.Onward.{goes_same}
use Rattle.dis_results.proofs.indexes.index_of_size.Goals as goal

pub returns-in-Ok-of_size-clause-goes : goal.returns-in-Ok-of_size-clause-goes
returns-in-Ok-of_size-clause-goes c =
    let m = c.args.memory.now in
    let x = view_world m in
    let p = view_process c.args.process.now in
    let i = c.args.inst in
    λ o. goes_same m c.index_into.new.memory c.args.process.now c.index_into.new.process c.index_into.result _ _
    (ap (λ a. a >>= of_size o x p i c.args.size >>= placed o x p i) c.in-Ok.ensures
    ∙ ap (λ a. a >>= placed o x p i) (c.in-Ok-of_size.ensures o p i))
    (c.index_into.ensures.goes o)

pub returns-in-Err-of_size-clause-goes : goal.returns-in-Err-of_size-clause-goes
returns-in-Err-of_size-clause-goes c =
    let x = view_world c.args.memory.now in
    let p = view_process c.args.process.now in
    let i = c.args.inst in
    λ o. ap (λ a. a >>= of_size o x p i c.args.size >>= placed o x p i) c.in-Ok.ensures
    ∙ ap (λ a. a >>= placed o x p i) (c.in-Err-of_size.ensures {u = tt} o p i)
