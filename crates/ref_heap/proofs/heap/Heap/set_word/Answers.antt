use Rattle.std.proofs.Common.{Option, sym, ap, ◌∙◌}
use Rattle.ref_heap.specs.Words.{cell_of, with_cell}
use Rattle.ref_heap.specs.Store.{Block, with_content}
use Rattle.ref_heap.specs.Answers.{set_answer}
use Rattle.ref_heap.proofs.View.{at_view}
use Rattle.ref_heap.proofs.Put.{set_stands, ok_view, err_view}
use Rattle.std.proofs.Common.{subst}
use Rattle.ref_heap.specs.Store.{Store, IsHeap}
use Rattle.ref_heap.proofs.Outside.{set_outside}
use Rattle.ref_heap.proofs.heap.Heap.set_word.Goals as goal

pub invariant_of-self : goal.invariant_of-self
invariant_of-self c =
    let i = c.self.invariant in
    record {
      stands = set_stands c.put.result c.self.inside.made c.self.inside.slots c.put.new.slots c.self.inside.lost.items c.self.inside.numbered c.args.r.serial c.args.i (cell_of c.args.word) c.args.self.now
          c.self.view_is c.requires.held i.stands c.put.ensures.unique c.put.ensures.answer c.put.ensures.ok c.put.ensures.err;
      room = i.room;
    }

pub returns-clause-answer : goal.returns-clause-answer
returns-clause-answer c = c.put.ensures.answer ∙ ap (λ (v : Option Block). set_answer v c.args.i (cell_of c.args.word)) (sym (at_view c.self.inside.made c.self.inside.slots c.self.inside.lost.items c.args.self.now c.args.r.serial c.self.view_is))

pub returns-clause-ok : goal.returns-clause-ok
returns-clause-ok c b is = ok_view c.put.result c.self.inside.made c.self.inside.slots c.put.new.slots c.self.inside.lost.items c.args.r.serial c.args.self.now b (λ (b : Block). with_content b (with_cell b.content c.args.i (cell_of c.args.word))) c.self.view_is is c.put.ensures.ok

pub returns-clause-err : goal.returns-clause-err
returns-clause-err c = err_view c.put.result c.self.inside.made c.self.inside.slots c.put.new.slots c.self.inside.lost.items c.args.self.now c.self.view_is c.put.ensures.err

pub returns-clause-outside : goal.returns-clause-outside
returns-clause-outside c = set_outside c.put.result c.args.self.now _ c.args.r.serial c.args.i (cell_of c.args.word) (subst (λ (v : Store). IsHeap v) c.self.view_is c.self.invariant.stands.heap) c.requires.held (returns-clause-answer c) (returns-clause-ok c)
