use Rattle.std.proofs.Common.{cond, Bool, Ok, eq-eqb, sym, ap, ◌∙◌, arith}
use Rattle.ref_heap.specs.declared.kind.Freed.TheVariants.{Yes, No}
use Rattle.ref_heap.specs.Slots.{block_of}
use Rattle.ref_heap.specs.Answers.{answer_for, drop_answer}
use Rattle.ref_heap.proofs.View.{at_looked, neq_eqb}
use Rattle.std.proofs.Common.{◌≡◌, None, Some, subst}
use Rattle.ref_heap.specs.Store.{Store, IsHeap}
use Rattle.ref_heap.proofs.Last.{drops_one, last_gone, other_stays}
use Rattle.ref_heap.proofs.heap.Heap.drop_ref.Goals as goal

pub returns-in-None-clause-answer : goal.returns-in-None-clause-answer
returns-in-None-clause-answer c = sym (ap (answer_for drop_answer) (at_looked c.self.inside.made c.self.inside.slots c.self.inside.lost.items c.args.self.now c.args.r.serial _ _ c.self.view_is c.look.ensures c.in-None.is))

pub drop_words-requires : goal.drop_words-requires
drop_words-requires c n =
    omega (arith, c.requires (block_of c.in-Some.block.now) (at_looked c.self.inside.made c.self.inside.slots c.self.inside.lost.items c.args.self.now c.args.r.serial _ _ c.self.view_is c.look.ensures c.in-Some.is) n)

pub returns-then-count-eq1-clause-answer : goal.returns-then-count-eq1-clause-answer
returns-then-count-eq1-clause-answer c =
    sym (ap (answer_for drop_answer) (at_looked c.self.inside.made c.self.inside.slots c.self.inside.lost.items c.args.self.now c.args.r.serial _ _ c.self.view_is c.look.ensures c.in-Some.is)
    ∙ ap (λ (v : Bool). Ok (cond v Yes No)) (eq-eqb _ _ c.if-count-eq1.true))

pub returns-else-count-eq1-clause-answer : goal.returns-else-count-eq1-clause-answer
returns-else-count-eq1-clause-answer c =
    sym (ap (answer_for drop_answer) (at_looked c.self.inside.made c.self.inside.slots c.self.inside.lost.items c.args.self.now c.args.r.serial _ _ c.self.view_is c.look.ensures c.in-Some.is)
    ∙ ap (λ (v : Bool). Ok (cond v Yes No)) (neq_eqb _ _ c.if-count-eq1.false))

pub returns-then-count-eq1-clause-gone : goal.returns-then-count-eq1-clause-gone
returns-then-count-eq1-clause-gone c b is last =
    last_gone c.args.self.now c.drop_words.new.self c.args.r.serial b (subst (λ (v : Store). IsHeap v) c.self.view_is c.self.invariant.stands.heap) is last (c.requires b is) (drops_one c.args.self.now c.drop_words.new.self c.args.r.serial c.drop_words.ensures.drops)

pub returns-then-count-eq1-clause-lowered : goal.returns-then-count-eq1-clause-lowered
returns-then-count-eq1-clause-lowered c b is more =
    other_stays c.args.self.now c.drop_words.new.self c.args.r.serial b (subst (λ (v : Store). IsHeap v) c.self.view_is c.self.invariant.stands.heap) is more (c.requires b is) (drops_one c.args.self.now c.drop_words.new.self c.args.r.serial c.drop_words.ensures.drops)

pub returns-else-count-eq1-clause-gone : goal.returns-else-count-eq1-clause-gone
returns-else-count-eq1-clause-gone c b is last =
    last_gone c.args.self.now c.drop_words.new.self c.args.r.serial b (subst (λ (v : Store). IsHeap v) c.self.view_is c.self.invariant.stands.heap) is last (c.requires b is) (drops_one c.args.self.now c.drop_words.new.self c.args.r.serial c.drop_words.ensures.drops)

pub returns-else-count-eq1-clause-lowered : goal.returns-else-count-eq1-clause-lowered
returns-else-count-eq1-clause-lowered c b is more =
    other_stays c.args.self.now c.drop_words.new.self c.args.r.serial b (subst (λ (v : Store). IsHeap v) c.self.view_is c.self.invariant.stands.heap) is more (c.requires b is) (drops_one c.args.self.now c.drop_words.new.self c.args.r.serial c.drop_words.ensures.drops)

pub returns-in-None-clause-gone : goal.returns-in-None-clause-gone
returns-in-None-clause-gone c b is last = at_looked c.self.inside.made c.self.inside.slots c.self.inside.lost.items c.args.self.now c.args.r.serial _ _ c.self.view_is c.look.ensures c.in-None.is

pub returns-in-None-clause-lowered : goal.returns-in-None-clause-lowered
returns-in-None-clause-lowered c b is more n =
    absurd (let f : None ≡ Some b = sym (at_looked c.self.inside.made c.self.inside.slots c.self.inside.lost.items c.args.self.now c.args.r.serial _ _ c.self.view_is c.look.ensures c.in-None.is) ∙ is in cc)
