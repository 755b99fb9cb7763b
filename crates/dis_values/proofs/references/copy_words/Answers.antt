use Rattle.std.proofs.Common.{◌≡◌, ◌+◌, ◌<◌, ◌≤◌, List, take, drop, sym, ap, subst, ◌∙◌, arith}
use Rattle.std.specs.Prelude.{map}
use Rattle.ref_heap.specs.Words.{Cell, cell_of, naming}
use Rattle.ref_heap.specs.Answers.{most}
use Rattle.ref_heap.specs.Store.{at, count, words_of}
use Rattle.dis_values.specs.References.{HaveRoom}
use Rattle.dis_values.proofs.Sharing.{room_for}
use Rattle.dis_values.proofs.references.copy_words.Goals as goal

pub move_words-requires-clause-room : goal.move_words-requires-clause-room
move_words-requires-clause-room c =
    let h = c.args.heap.now in
    let src = c.requires.there.source in
    let cs = take c.args.amount (drop c.args.from (words_of src.block)) in
    let e : map cell_of c.deref.result.now ≡ cs = ap (map cell_of) c.deref.ensures.value ∙ c.in_ok-copied.ensures src.block src.live in
    let e2 : map cell_of c.deref-2.result.now ≡ cs = ap (map cell_of) c.deref-2.ensures.value ∙ c.in_ok-copied.ensures src.block src.live in
    subst (λ (xs : List Cell). HaveRoom h (naming xs)) (sym e2)
    (room_for h c.args.out.serial c.args.from c.args.amount src.block c.stands.ensures src.live (λ n some.
    subst (λ (xs : List Cell). 0 < naming xs n → count (at h) n + naming xs n ≤ most) e
    (c.may_all_be_held.ensures.yes c.if-not-may_all_be_held.false n) some))

pub returns-clause-full : goal.returns-clause-full
returns-clause-full c b is n some over =
    let h = c.args.heap.now in
    let e : map cell_of c.deref.result.now ≡ take c.args.amount (drop c.args.from (words_of b)) = ap (map cell_of) c.deref.ensures.value
    ∙ c.in_ok-copied.ensures b is in
    let fits : count (at h) n + naming (take c.args.amount (drop c.args.from (words_of b))) n ≤ most =
    subst (λ (xs : List Cell). 0 < naming xs n → count (at h) n + naming xs n ≤ most) e
    (c.may_all_be_held.ensures.yes c.if-not-may_all_be_held.false n) some in
    absurd (omega (arith, fits, over))
