use Rattle.std.proofs.Common.{◌≡◌, ◌/◌, sym, ap, ◌∙◌, rules}
use Rattle.dis_meaning.specs.Places.{place_in}
use Rattle.dis_meaning.specs.Words.{Found, ◌>>=◌, at_least_zero}
use Rattle.dis_memory.specs.Process.{next}
use Rattle.dis_copies.specs.Spans.{put_at}
use Rattle.dis_places.specs.Regions.{words_here}
use Rattle.dis_places.specs.View.{view_process, view_spot, view_world}
use Rattle.dis_places.specs.Words.{view_words}
use Rattle.dis_results.proofs.Onward.{goes_same}
use Rattle.dis_moves.proofs.Moved.{moved_halts, moved_put}
use Rattle.dis_moves.proofs.moves.move_to.Goals as goal

pub returns-in-Ok-moved_words-clause-goes : goal.returns-in-Ok-moved_words-clause-goes
returns-in-Ok-moved_words-clause-goes c =
    let m = c.args.memory.now in
    let x = view_world m in
    let p = view_process c.args.process.now in
    let d = view_spot c.args.spot in
    let source = words_here m.heap c.args.process.now c.args.source in
    let target = words_here m.heap c.args.process.now c.in-Ok.target in
    let to = c.in-Ok-byte_number.to in
    let at : at_least_zero (place_in d) ≡ Found to = search rules in
    goes_same m c.finish_plain.new.memory c.args.process.now c.finish_plain.new.process c.finish_plain.result _ _
    (moved_put x p source c.args.from c.args.count d target to c.in-Ok.ensures at (view_words c.in-Ok-moved_words.words.items) c.in-Ok-moved_words.ensures.put
    ∙ ap (λ ws. put_at x p d (to / 4) (view_words ws) >>= λ m. Found (next m)) (sym c.deref_mut.ensures.value))
    c.finish_plain.ensures.goes

pub returns-in-Err-moved_words-clause-goes : goal.returns-in-Err-moved_words-clause-goes
returns-in-Err-moved_words-clause-goes c =
    let m = c.args.memory.now in
    let x = view_world m in
    let p = view_process c.args.process.now in
    let d = view_spot c.args.spot in
    let to = c.in-Ok-byte_number.to in
    let at : at_least_zero (place_in d) ≡ Found to = search rules in
    moved_halts x p (words_here m.heap c.args.process.now c.args.source) c.args.from c.args.count d (words_here m.heap c.args.process.now c.in-Ok.target) to c.in-Ok.ensures at
    c.in-Err-moved_words.halt (c.in-Err-moved_words.ensures {u = tt}).fault
