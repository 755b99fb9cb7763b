use Rattle.std.proofs.Common.{◌≡◌, Option, None, Some, sym, ap, ◌∙◌, refl, subst}
use Rattle.std.specs.Prelude.{IfErr}
use Rattle.ref_heap.specs.declared.kind.HeapFault.{HeapFault}
use Rattle.ref_heap.specs.declared.slots.Slot.{Slot}
use Rattle.ref_heap.specs.Answers.{extend_fault}
use Rattle.ref_heap.specs.Words.{cells, wide, numbers_in}
use Rattle.ref_heap.specs.Slots.{block_of}
use Rattle.ref_heap.specs.Store.{Block, widened}
use Rattle.ref_heap.proofs.Places.{became, kept_here, kept_absent, same_slots}
use Rattle.ref_heap.proofs.slots.widen.Goals as goal

pub returns-in-Some-clause-unique : goal.returns-in-Some-clause-unique
returns-in-Some-clause-unique c =
    (became c.widen_at.result c.args.slots.now c.widen_at.new.slots c.in-Some.i c.args.r.serial (λ (b : Slot). record b { words = wide (cells b.words) }) widened
    (λ s. refl) (λ s. refl) c.requires c.in-Some.ensures.found c.widen_at.ensures.ok c.widen_at.ensures.err).unique

pub returns-in-Some-clause-fault : goal.returns-in-Some-clause-fault
returns-in-Some-clause-fault c =
    subst (λ (o : Option Block). IfErr c.widen_at.result (λ (e : HeapFault). e ≡ extend_fault o)) (sym (kept_here c.args.slots.now c.in-Some.i c.args.r.serial c.requires c.in-Some.ensures.found))
    (c.widen_at.ensures.fault c.in-Some.ensures.found.block c.in-Some.ensures.found.is)

pub returns-in-Some-clause-dead : goal.returns-in-Some-clause-dead
returns-in-Some-clause-dead c e = absurd (let f : None ≡ Some (block_of c.in-Some.ensures.found.block) = sym e ∙ kept_here c.args.slots.now c.in-Some.i c.args.r.serial c.requires c.in-Some.ensures.found in cc)

pub returns-in-Some-clause-ok : goal.returns-in-Some-clause-ok
returns-in-Some-clause-ok c =
    (became c.widen_at.result c.args.slots.now c.widen_at.new.slots c.in-Some.i c.args.r.serial (λ (b : Slot). record b { words = wide (cells b.words) }) widened
    (λ s. refl) (λ s. refl) c.requires c.in-Some.ensures.found c.widen_at.ensures.ok c.widen_at.ensures.err).ok

pub returns-in-Some-clause-err : goal.returns-in-Some-clause-err
returns-in-Some-clause-err c =
    (became c.widen_at.result c.args.slots.now c.widen_at.new.slots c.in-Some.i c.args.r.serial (λ (b : Slot). record b { words = wide (cells b.words) }) widened
    (λ s. refl) (λ s. refl) c.requires c.in-Some.ensures.found c.widen_at.ensures.ok c.widen_at.ensures.err).err

pub returns-in-None-clause-fault : goal.returns-in-None-clause-fault
returns-in-None-clause-fault c = sym (ap extend_fault (kept_absent c.args.slots.now c.args.r.serial c.in-None.ensures.absent))

pub returns-in-None-clause-err : goal.returns-in-None-clause-err
returns-in-None-clause-err c = same_slots c.args.slots.now

pub returns-in-Some-clause-wide : goal.returns-in-Some-clause-wide
returns-in-Some-clause-wide c b is none =
    let f : Some (block_of c.in-Some.ensures.found.block) ≡ Some b = sym (kept_here c.args.slots.now c.in-Some.i c.args.r.serial c.requires c.in-Some.ensures.found) ∙ is in
    let e : block_of c.in-Some.ensures.found.block ≡ b = cc in
    c.widen_at.ensures.wide c.in-Some.ensures.found.block c.in-Some.ensures.found.is (ap (λ (x : Block). numbers_in x.content) e ∙ none)

pub returns-in-None-clause-wide : goal.returns-in-None-clause-wide
returns-in-None-clause-wide c b is none = absurd (let f : None ≡ Some b = sym (kept_absent c.args.slots.now c.args.r.serial c.in-None.ensures.absent) ∙ is in cc)
