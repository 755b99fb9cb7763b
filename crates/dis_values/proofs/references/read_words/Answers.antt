use Rattle.std.proofs.Common.{◌≡◌, ◌+◌, ◌++◌, ◌∷◌, [], List, Option, Some, drop, sym, ap, ◌∙◌}
use Rattle.std.specs.Prelude.{map, slice_get}
use Rattle.std.proofs.lemmas.List.{map-append}
use Rattle.ref_heap.specs.Words.{Cell, cell_of}
use Rattle.ref_heap.specs.Answers.{as_cell, get_answer}
use Rattle.ref_heap.specs.Store.{Block, words_of}
use Rattle.dis_values.proofs.Packed.{found_some}
use Rattle.dis_values.proofs.Referring.{get_cell_drop, take_next}
use Rattle.dis_values.proofs.references.read_words.Goals as goal

pub loop-i-preserved : goal.loop-i-preserved
loop-i-preserved c b is =
    let i = c.loop-i.i in
    let ws = words_of b in
    let got : slice_get ws (c.args.from + i) ≡ Some (cell_of c.in-Ok.word)
    = found_some (slice_get ws (c.args.from + i)) (cell_of c.in-Ok.word) (sym (ap as_cell c.in-Ok.is) ∙ c.get.ensures
    ∙ ap (λ (o : Option Block). get_answer o (c.args.from + i)) is) in
    ap (map cell_of) c.in_ok-push-in-Ok.ensures.items
    ∙ map-append cell_of c.loop-i.words.items (c.in-Ok.word ∷ [])
    ∙ ap (λ (xs : List Cell). xs ++ cell_of c.in-Ok.word ∷ []) (c.loop-i.invariant b is)
    ∙ sym (take_next (drop c.args.from ws) i (cell_of c.in-Ok.word) (get_cell_drop ws c.args.from i ∙ got))
