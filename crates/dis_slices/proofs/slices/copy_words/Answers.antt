use Rattle.std.proofs.Common.{◌≡◌, ◌+◌, ◌*◌, ◌/◌, pos, sym, ap, ◌∙◌, rules}
use Rattle.dis_meaning.specs.Places.{Far}
use Rattle.dis_meaning.specs.Words.{InBlock, Found, ◌>>=◌}
use Rattle.dis_memory.specs.Process.{next}
use Rattle.dis_copies.specs.Spans.{put_at}
use Rattle.dis_kinds.specs.Views.{view_elements}
use Rattle.dis_places.specs.View.{view_process, view_world}
use Rattle.dis_places.specs.Words.{view_words}
use Rattle.dis_results.proofs.Onward.{goes_same}
use Rattle.dis_slices.proofs.Put.{words_put}
use Rattle.dis_slices.proofs.slices.copy_words.Goals as goal

pub returns-in-Ok-words_from-clause-goes : goal.returns-in-Ok-words_from-clause-goes
returns-in-Ok-words_from-clause-goes c =
    let m = c.args.memory.now in
    let x = view_world m in
    let p = view_process c.args.process.now in
    let s = view_elements m c.args.source in
    let t = view_elements m c.args.target in
    let from = c.in-Ok.from in
    let count = c.in-Ok-few.count in
    let to = c.in-Ok-product.to in
    let e : from ≡ s.start * (s.element.size / 4) = search rules in
    let f : count ≡ s.long * (s.element.size / 4) = search rules in
    let g : to ≡ (t.start + c.args.at) * (t.element.size / 4) = search rules in
    goes_same m c.finish_words.new.memory c.args.process.now c.finish_words.new.process c.finish_words.result _ _
    (words_put x p s t c.args.at c.requires.array (pos 0) from count to (view_words c.in-Ok-words_from.words.items) e f g c.in-Ok-words_from.ensures.words
    ∙ ap (λ ws. put_at x p (Far (InBlock t.array) (pos 0)) to (view_words ws) >>= λ m. Found (next m)) (sym c.deref_mut.ensures.value))
    c.finish_words.ensures.goes
