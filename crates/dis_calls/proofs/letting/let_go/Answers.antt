use Rattle.std.proofs.Common.{◌≡◌, ℕ, ◌+◌, map, sym, subst}
use Rattle.ref_heap.specs.Words.{cell_of, naming}
use Rattle.ref_heap.specs.Store.{AreHeld, outside}
use Rattle.dis_calls.proofs.Gone.{words_held, instance_held, both_let_go, two_cuts}
use Rattle.dis_calls.proofs.letting.let_go.Goals as goal

pub drop_words-requires : goal.drop_words-requires
drop_words-requires c =
    subst (λ ws. AreHeld c.args.heap.now (naming (map cell_of ws))) (sym c.deref.ensures.value)
    (words_held c.args.frame.now c.args.heap.now c.requires.held)

pub drop_words-requires-2 : goal.drop_words-requires-2
drop_words-requires-2 c =
    let h1 = c.drop_words.new.self in
    instance_held c.args.frame.now c.args.heap.now h1 c.requires.held
    (subst (λ ws. (n : ℕ) → outside h1 n + naming (map cell_of ws) n ≡ outside c.args.heap.now n) c.deref.ensures.value c.drop_words.ensures.outside)

pub returns-clause-held : goal.returns-clause-held
returns-clause-held c =
    let h1 = c.drop_words.new.self in
    both_let_go c.args.frame.now c.args.heap.now h1 c.requires.held
    (subst (λ ws. (n : ℕ) → outside h1 n + naming (map cell_of ws) n ≡ outside c.args.heap.now n) c.deref.ensures.value c.drop_words.ensures.outside)
    c.drop_words-2.new.self c.drop_words-2.ensures.outside

pub returns-clause-blocks : goal.returns-clause-blocks
returns-clause-blocks c =
    let h = c.args.heap.now in
    let h1 = c.drop_words.new.self in
    let held = subst (λ ws. AreHeld h (naming (map cell_of ws))) (sym c.deref.ensures.value) (words_held c.args.frame.now h c.requires.held) in
    let out = subst (λ ws. (n : ℕ) → outside h1 n + naming (map cell_of ws) n ≡ outside h n) c.deref.ensures.value c.drop_words.ensures.outside in
    λ t. two_cuts t h h1 c.drop_words-2.new.self _ _
    (record { heap = c.stands.ensures; held = held; drops = c.drop_words.ensures.drops; made = c.drop_words.ensures.made })
    (record {
      heap = c.stands-2.ensures;
      held = instance_held c.args.frame.now h h1 c.requires.held out;
      drops = c.drop_words-2.ensures.drops;
      made = c.drop_words-2.ensures.made;
    })
    c.requires.proper c.drop_words-2.ensures.outside
