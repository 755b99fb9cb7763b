use Rattle.std.proofs.Common.{◌≡◌, Option, sym, ◌∙◌, subst}
use Rattle.std.specs.Prelude.{IfErr}
use Rattle.ref_heap.specs.declared.kind.HeapFault.{HeapFault}
use Rattle.ref_heap.specs.Words.{Content, with_more}
use Rattle.ref_heap.specs.Store.{Block, with_content}
use Rattle.ref_heap.specs.Answers.{extend_fault}
use Rattle.ref_heap.proofs.View.{at_view}
use Rattle.ref_heap.proofs.Put.{content_stands, more_names, ok_view, err_view}
use Rattle.ref_heap.specs.Store.{Store, IsHeap}
use Rattle.ref_heap.proofs.Outside.{content_outside}
use Rattle.ref_heap.proofs.heap.Heap.append.Goals as goal

pub extend-requires-clause-compact : goal.extend-requires-clause-compact
extend-requires-clause-compact c b is = c.requires b (at_view c.self.inside.made c.self.inside.slots c.self.inside.lost.items c.args.self.now c.args.r.serial c.self.view_is ∙ is)

pub invariant_of-self : goal.invariant_of-self
invariant_of-self c =
    let i = c.self.invariant in
    record {
      stands = content_stands c.extend.result c.self.inside.made c.self.inside.slots c.extend.new.slots c.self.inside.lost.items c.self.inside.numbered c.args.r.serial (λ (v : Content). with_more v c.args.more.now) (λ v q. more_names v c.args.more.now q)
          i.stands c.extend.ensures.unique c.extend.ensures.dead c.extend.ensures.ok c.extend.ensures.err;
      room = i.room;
    }

pub returns-clause-ok : goal.returns-clause-ok
returns-clause-ok c b is = ok_view c.extend.result c.self.inside.made c.self.inside.slots c.extend.new.slots c.self.inside.lost.items c.args.r.serial c.args.self.now b (λ (b : Block). with_content b (with_more b.content c.args.more.now)) c.self.view_is is c.extend.ensures.ok

pub returns-clause-fault : goal.returns-clause-fault
returns-clause-fault c = subst (λ (o : Option Block). IfErr c.extend.result (λ (e : HeapFault). e ≡ extend_fault o)) (sym (at_view c.self.inside.made c.self.inside.slots c.self.inside.lost.items c.args.self.now c.args.r.serial c.self.view_is)) c.extend.ensures.fault

pub returns-clause-dead : goal.returns-clause-dead
returns-clause-dead c e = c.extend.ensures.dead (sym (at_view c.self.inside.made c.self.inside.slots c.self.inside.lost.items c.args.self.now c.args.r.serial c.self.view_is) ∙ e)

pub returns-clause-err : goal.returns-clause-err
returns-clause-err c = err_view c.extend.result c.self.inside.made c.self.inside.slots c.extend.new.slots c.self.inside.lost.items c.args.self.now c.self.view_is c.extend.ensures.err

pub returns-clause-outside : goal.returns-clause-outside
returns-clause-outside c = content_outside c.extend.result c.args.self.now _ c.args.r.serial (λ (v : Content). with_more v c.args.more.now) (λ v q. more_names v c.args.more.now q) (subst (λ (v : Store). IsHeap v) c.self.view_is c.self.invariant.stands.heap) (returns-clause-dead c) (returns-clause-ok c)
