use Rattle.std.proofs.Common.{ap, ◌∙◌}
use Rattle.std.specs.Option.{option_map}
use Rattle.ref_heap.specs.Store.{at}
use Rattle.dis_meaning.specs.Places.{place_in}
use Rattle.dis_meaning.specs.Words.{Found, ◌>>=◌, at_least_zero}
use Rattle.dis_memory.specs.Places.{words_at, with_words_at}
use Rattle.dis_memory.specs.Process.{next}
use Rattle.dis_kinds.specs.Views.{view_linked}
use Rattle.dis_places.specs.View.{view_process, view_spot, view_world}
use Rattle.dis_results.proofs.Onward.{goes_same, halts_same}
use Rattle.dis_moves.specs.Moves.{head_to}
use Rattle.dis_moves.proofs.Chains.{under}
use Rattle.dis_moves.proofs.Moved.{behind_moved}
use Rattle.dis_moves.proofs.moves.head_to.Goals as goal

pub returns-in-Some-clause-goes : goal.returns-in-Some-clause-goes
returns-in-Some-clause-goes c =
    let m = c.args.memory.now in
    let x = view_world m in
    let p = view_process c.args.process.now in
    let d = view_spot c.args.spot in
    let count = c.args.count in
    goes_same m c.move_to.new.memory c.args.process.now c.move_to.new.process c.move_to.result _ _
    (ap (λ cell. head_to x p (option_map (view_linked m) cell) count d) c.in-Some.is
    ∙ under (words_at x p d) _ _
    (λ target. under (at_least_zero (place_in d)) _ _
    (λ to. ap (λ a. a >>= with_words_at x p d >>= λ m. Found (next m)) (behind_moved (at m.heap c.in-Some.cell.serial) target to count))))
    c.move_to.ensures.goes

pub returns-in-None-clause-goes : goal.returns-in-None-clause-goes
returns-in-None-clause-goes c =
    halts_same c.refuse_nil.result _ _
    (ap (λ cell. head_to (view_world c.args.memory.now) (view_process c.args.process.now) (option_map (view_linked c.args.memory.now) cell) c.args.count (view_spot c.args.spot)) c.in-None.is)
    (c.refuse_nil.ensures c.args.count)
