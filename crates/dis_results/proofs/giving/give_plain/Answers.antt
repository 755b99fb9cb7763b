use Rattle.std.proofs.Common.{ap, ◌∙◌}
use Rattle.std.specs.Prelude.{Ok}
use Rattle.dis_meaning.specs.Words.{Found, ◌>>=◌}
use Rattle.dis_memory.specs.Places.{store}
use Rattle.dis_memory.specs.Process.{next}
use Rattle.dis_places.specs.View.{view_process, view_spot, view_world}
use Rattle.dis_places.specs.Words.{view_word}
use Rattle.dis_results.specs.Going.{told}
use Rattle.dis_results.proofs.Onward.{goes_on, goes_same, halts_next, halts_same}
use Rattle.dis_results.proofs.giving.give_plain.Goals as goal

pub returns-in-Ok-store_plain-clause-goes : goal.returns-in-Ok-store_plain-clause-goes
returns-in-Ok-store_plain-clause-goes c =
    let m = c.args.memory.now in
    let x = view_world m in
    let p = view_process c.args.process.now in
    let s = view_spot c.args.spot in
    let w = view_word c.in-Ok-outcome.word in
    goes_same m c.store_plain.new.memory c.args.process.now c.advance.new.process (Ok tt) _ _
    (ap (λ a. a >>= λ old. told view_word c.args.outcome >>= λ w. store x p s w >>= λ m. Found (next m)) c.in-Ok.ensures
    ∙ ap (λ r. told view_word r >>= λ w. store x p s w >>= λ m. Found (next m)) c.in-Ok-outcome.is)
    (goes_on m c.store_plain.new.memory c.args.process.now c.store_plain.new.process c.advance.new.process (store x p s w)
    c.in-Ok-store_plain.ensures.stores c.advance.ensures)

pub returns-in-Err-store_plain-clause-goes : goal.returns-in-Err-store_plain-clause-goes
returns-in-Err-store_plain-clause-goes c =
    let m = c.args.memory.now in
    let x = view_world m in
    let p = view_process c.args.process.now in
    let s = view_spot c.args.spot in
    let w = view_word c.in-Ok-outcome.word in
    halts_same c.in-Err-store_plain.halt _ _
    (ap (λ a. a >>= λ old. told view_word c.args.outcome >>= λ w. store x p s w >>= λ m. Found (next m)) c.in-Ok.ensures
    ∙ ap (λ r. told view_word r >>= λ w. store x p s w >>= λ m. Found (next m)) c.in-Ok-outcome.is)
    (halts_next c.in-Err-store_plain.halt (store x p s w) (c.in-Err-store_plain.ensures {u = tt}).stores)
