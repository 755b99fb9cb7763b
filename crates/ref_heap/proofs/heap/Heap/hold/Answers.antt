use Rattle.std.proofs.Common.{sym, ap, ◌∙◌}
use Rattle.ref_heap.specs.Store.{one_more}
use Rattle.ref_heap.specs.Answers.{hold_answer}
use Rattle.ref_heap.proofs.View.{at_view}
use Rattle.ref_heap.proofs.Put.{hold_stands, ok_view, err_view}
use Rattle.std.proofs.Common.{subst}
use Rattle.ref_heap.specs.Store.{Store, IsHeap}
use Rattle.ref_heap.proofs.Outside.{hold_outside}
use Rattle.ref_heap.proofs.heap.Heap.hold.Goals as goal

pub invariant_of-self : goal.invariant_of-self
invariant_of-self c =
    let i = c.self.invariant in
    record {
      stands = hold_stands c.raise.result c.self.inside.made c.self.inside.slots c.raise.new.slots c.self.inside.lost.items c.self.inside.numbered c.args.r.serial i.stands c.raise.ensures.unique c.raise.ensures.answer c.raise.ensures.ok c.raise.ensures.err;
      room = i.room;
    }

pub returns-clause-answer : goal.returns-clause-answer
returns-clause-answer c = c.raise.ensures.answer ∙ ap hold_answer (sym (at_view c.self.inside.made c.self.inside.slots c.self.inside.lost.items c.args.self.now c.args.r.serial c.self.view_is))

pub returns-clause-ok : goal.returns-clause-ok
returns-clause-ok c b is = ok_view c.raise.result c.self.inside.made c.self.inside.slots c.raise.new.slots c.self.inside.lost.items c.args.r.serial c.args.self.now b one_more c.self.view_is is c.raise.ensures.ok

pub returns-clause-err : goal.returns-clause-err
returns-clause-err c = err_view c.raise.result c.self.inside.made c.self.inside.slots c.raise.new.slots c.self.inside.lost.items c.args.self.now c.self.view_is c.raise.ensures.err

pub returns-clause-outside : goal.returns-clause-outside
returns-clause-outside c = hold_outside c.raise.result c.args.self.now _ c.args.r.serial (subst (λ (v : Store). IsHeap v) c.self.view_is c.self.invariant.stands.heap) (returns-clause-answer c) (returns-clause-ok c)
