use Rattle.std.proofs.Common.{◌≡◌, ◌∙◌, ℕ, length, take, drop, sym, ap, arith}
use Rattle.std.specs.Prelude.{map}
use Rattle.ref_heap.specs.Words.{Content, cell_of, cells, naming}
use Rattle.ref_heap.specs.Store.{words_of}
use Rattle.dis_values.proofs.Referring.{can_put_held, moved, length_map}
use Rattle.dis_values.proofs.Sharing.{given_held}
use Rattle.dis_values.proofs.references.move_words.Goals as goal

pub put_words-requires-clause-there : goal.put_words-requires-clause-there
put_words-requires-clause-there c =
    can_put_held c.args.heap.now c.hold_words.new.heap c.args.block.serial c.args.from (map cell_of c.args.words.now)
    (naming (map cell_of c.args.words.now))
    c.hold_words.ensures.held c.requires.there

pub drop_words-requires : goal.drop_words-requires
drop_words-requires c n =
    let t = c.requires.there in
    let cs = map cell_of c.args.words.now in
    let gs = map cell_of c.args.given.now in
    let e : gs ≡ take (length cs) (drop c.args.from t.words) = c.requires.stood t.block t.live
    ∙ ap (λ (x : ℕ). take x (drop c.args.from (words_of t.block))) (sym (length_map c.args.words.now))
    ∙ ap (λ (v : Content). take (length cs) (drop c.args.from (cells v))) t.content in
    omega (
      arith,
      given_held c.args.heap.now c.hold_words.new.heap c.put_words.new.heap c.args.block.serial c.args.from cs gs t
          c.hold_words.ensures.held c.hold_words.ensures.outside
          c.put_words.ensures.puts e n,
    )

pub returns-clause-moves : goal.returns-clause-moves
returns-clause-moves c =
    let t = c.requires.there in
    let cs = map cell_of c.args.words.now in
    let gs = map cell_of c.args.given.now in
    let e : gs ≡ take (length cs) (drop c.args.from t.words) = c.requires.stood t.block t.live
    ∙ ap (λ (x : ℕ). take x (drop c.args.from (words_of t.block))) (sym (length_map c.args.words.now))
    ∙ ap (λ (v : Content). take (length cs) (drop c.args.from (cells v))) t.content in
    moved c.args.heap.now c.hold_words.new.heap c.put_words.new.heap c.drop_words.new.self c.args.block.serial c.args.from cs gs t
    c.hold_words.ensures.held
    c.put_words.ensures.puts e c.drop_words.ensures.drops c.drop_words.ensures.lists

pub returns-clause-outside : goal.returns-clause-outside
returns-clause-outside c n =
    let t = c.requires.there in
    let cs = map cell_of c.args.words.now in
    let gs = map cell_of c.args.given.now in
    let e : gs ≡ take (length cs) (drop c.args.from t.words) = c.requires.stood t.block t.live
    ∙ ap (λ (x : ℕ). take x (drop c.args.from (words_of t.block))) (sym (length_map c.args.words.now))
    ∙ ap (λ (v : Content). take (length cs) (drop c.args.from (cells v))) t.content in
    let a = given_held c.args.heap.now c.hold_words.new.heap c.put_words.new.heap c.args.block.serial c.args.from cs gs t
    c.hold_words.ensures.held c.hold_words.ensures.outside
    c.put_words.ensures.puts e n in
    let b = c.drop_words.ensures.outside n in
    omega arith
