use Rattle.std.proofs.Common.{◌≡◌, ◌+◌, ◌<◌, ◌∷◌, [], ℕ, List, Some, length, take, get_or, sym, subst, arith}
use Rattle.std.specs.Prelude.{map, slice_get}
use Rattle.ref_heap.specs.declared.word.Word.TheVariants.{Plain}
use Rattle.ref_heap.specs.Words.{Cell, cell_of}
use Rattle.dis_values.specs.References.{CanPut, Puts}
use Rattle.dis_values.proofs.Referring.{puts_none, puts_more, can_put_next, held_next, item_at, length_map, length_take, take_next}
use Rattle.dis_values.proofs.references.put_words.Goals as goal

pub loop-word-init : goal.loop-word-init
loop-word-init c = record {
  place = omega arith;
  puts = puts_none c.args.heap.now c.args.block.serial c.args.from
      (map cell_of c.args.words.now) c.requires.there;
}

pub put_word-requires-clause-there : goal.put_word-requires-clause-there
put_word-requires-clause-there c =
    let cs = map cell_of c.args.words.now in
    let i = c.loop-word.word-index in
    let w = get_or c.args.words.now i (Plain 0) in
    let is : slice_get cs i ≡ Some (cell_of w) = item_at c.args.words.now i (Plain 0) c.loop-word-test.true in
    let within : i < length cs = omega (arith, length_map c.args.words.now, c.loop-word-test.true) in
    subst (λ (x : ℕ). CanPut c.loop-word.heap c.args.block.serial x (cell_of w ∷ [])) (sym c.loop-word.invariant.place)
    (can_put_next c.args.heap.now c.loop-word.heap c.args.block.serial c.args.from i cs
    (cell_of w) c.requires.there c.loop-word.invariant.puts is within)

pub put_word-requires-clause-held : goal.put_word-requires-clause-held
put_word-requires-clause-held c =
    let cs = map cell_of c.args.words.now in
    let i = c.loop-word.word-index in
    let w = get_or c.args.words.now i (Plain 0) in
    let is : slice_get cs i ≡ Some (cell_of w) = item_at c.args.words.now i (Plain 0) c.loop-word-test.true in
    held_next c.args.heap.now c.loop-word.heap c.args.block.serial c.args.from i cs
    (cell_of w) c.requires.held c.loop-word.invariant.puts is

pub loop-word-preserved : goal.loop-word-preserved
loop-word-preserved c =
    let cs = map cell_of c.args.words.now in
    let i = c.loop-word.word-index in
    let w = get_or c.args.words.now i (Plain 0) in
    let is : slice_get cs i ≡ Some (cell_of w) = item_at c.args.words.now i (Plain 0) c.loop-word-test.true in
    let long : length (take i cs) ≡ i = length_take cs i (omega (arith, length_map c.args.words.now, c.loop-word-test.true)) in
    let place : c.loop-word.i ≡ c.args.from + length (take i cs) = omega (arith, c.loop-word.invariant.place, long) in
    let one = subst (λ (x : ℕ). Puts c.loop-word.heap c.put_word.new.heap c.args.block.serial x (cell_of w ∷ [])) place
    c.put_word.ensures.puts in
    record {
      place = omega (arith, c.loop-word.invariant.place);
      puts = subst (λ (xs : List Cell). Puts c.args.heap.now c.put_word.new.heap c.args.block.serial c.args.from xs)
          (sym (take_next cs i (cell_of w) is))
          (puts_more c.args.heap.now c.loop-word.heap c.put_word.new.heap c.args.block.serial c.args.from (take i cs)
          (cell_of w) c.loop-word.invariant.puts one);
    }
