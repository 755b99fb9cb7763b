use Rattle.std.proofs.Common.{◌≡◌, Option, sym, ◌∙◌, subst, refl}
use Rattle.std.specs.Prelude.{IfErr}
use Rattle.ref_heap.specs.declared.kind.HeapFault.{HeapFault}
use Rattle.ref_heap.specs.Words.{Content, cells, wide}
use Rattle.ref_heap.specs.Store.{Block, widened}
use Rattle.ref_heap.specs.Answers.{extend_fault}
use Rattle.ref_heap.proofs.View.{at_view}
use Rattle.ref_heap.proofs.Put.{content_stands, ok_view, err_view}
use Rattle.ref_heap.specs.Store.{Store, IsHeap}
use Rattle.ref_heap.proofs.Outside.{content_outside}
use Rattle.ref_heap.proofs.heap.Heap.widen.Goals as goal

pub invariant_of-self : goal.invariant_of-self
invariant_of-self c =
    let i = c.self.invariant in
    record {
      stands = content_stands c.widen.result c.self.inside.made c.self.inside.slots c.widen.new.slots c.self.inside.lost.items c.self.inside.numbered c.args.r.serial (λ (v : Content). wide (cells v)) (λ v q. refl)
          i.stands c.widen.ensures.unique c.widen.ensures.dead c.widen.ensures.ok c.widen.ensures.err;
      room = i.room;
    }

pub returns-clause-ok : goal.returns-clause-ok
returns-clause-ok c b is = ok_view c.widen.result c.self.inside.made c.self.inside.slots c.widen.new.slots c.self.inside.lost.items c.args.r.serial c.args.self.now b widened c.self.view_is is c.widen.ensures.ok

pub returns-clause-fault : goal.returns-clause-fault
returns-clause-fault c = subst (λ (o : Option Block). IfErr c.widen.result (λ (e : HeapFault). e ≡ extend_fault o)) (sym (at_view c.self.inside.made c.self.inside.slots c.self.inside.lost.items c.args.self.now c.args.r.serial c.self.view_is)) c.widen.ensures.fault

pub returns-clause-dead : goal.returns-clause-dead
returns-clause-dead c e = c.widen.ensures.dead (sym (at_view c.self.inside.made c.self.inside.slots c.self.inside.lost.items c.args.self.now c.args.r.serial c.self.view_is) ∙ e)

pub returns-clause-err : goal.returns-clause-err
returns-clause-err c = err_view c.widen.result c.self.inside.made c.self.inside.slots c.widen.new.slots c.self.inside.lost.items c.args.self.now c.self.view_is c.widen.ensures.err

pub returns-clause-outside : goal.returns-clause-outside
returns-clause-outside c = content_outside c.widen.result c.args.self.now _ c.args.r.serial (λ (v : Content). wide (cells v)) (λ v q. refl) (subst (λ (v : Store). IsHeap v) c.self.view_is c.self.invariant.stands.heap) (returns-clause-dead c) (returns-clause-ok c)

pub returns-clause-wide : goal.returns-clause-wide
returns-clause-wide c b is none = c.widen.ensures.wide b (sym (at_view c.self.inside.made c.self.inside.slots c.self.inside.lost.items c.args.self.now c.args.r.serial c.self.view_is) ∙ is) none
