use Rattle.std.proofs.Common.{◌≡◌, Option, None, Some, sym, ap, ◌∙◌, refl, subst}
use Rattle.std.specs.Prelude.{IfErr}
use Rattle.ref_heap.specs.declared.kind.HeapFault.{HeapFault}
use Rattle.ref_heap.specs.declared.slots.Slot.{Slot}
use Rattle.ref_heap.specs.Answers.{extend_fault}
use Rattle.ref_heap.specs.Words.{with_more}
use Rattle.ref_heap.specs.Slots.{block_of}
use Rattle.ref_heap.specs.Store.{Block, with_content}
use Rattle.ref_heap.proofs.Places.{became, kept_here, kept_of, kept_absent, same_slots}
use Rattle.ref_heap.proofs.slots.extend.Goals as goal

pub extend_at-requires : goal.extend_at-requires
extend_at-requires c b is = c.requires.compact (block_of b) (kept_of c.args.slots.now c.in-Some.i c.args.r.serial b c.requires.unique c.in-Some.ensures.found is)

pub returns-in-Some-clause-unique : goal.returns-in-Some-clause-unique
returns-in-Some-clause-unique c =
    (became c.extend_at.result c.args.slots.now c.extend_at.new.slots c.in-Some.i c.args.r.serial (λ (b : Slot). record b { words = with_more b.words c.args.more.now }) (λ (b : Block). with_content b (with_more b.content c.args.more.now))
    (λ s. refl) (λ s. refl) c.requires.unique c.in-Some.ensures.found c.extend_at.ensures.ok c.extend_at.ensures.err).unique

pub returns-in-Some-clause-fault : goal.returns-in-Some-clause-fault
returns-in-Some-clause-fault c =
    subst (λ (o : Option Block). IfErr c.extend_at.result (λ (e : HeapFault). e ≡ extend_fault o)) (sym (kept_here c.args.slots.now c.in-Some.i c.args.r.serial c.requires.unique c.in-Some.ensures.found))
    (c.extend_at.ensures.fault c.in-Some.ensures.found.block c.in-Some.ensures.found.is)

pub returns-in-Some-clause-dead : goal.returns-in-Some-clause-dead
returns-in-Some-clause-dead c e = absurd (let f : None ≡ Some (block_of c.in-Some.ensures.found.block) = sym e ∙ kept_here c.args.slots.now c.in-Some.i c.args.r.serial c.requires.unique c.in-Some.ensures.found in cc)

pub returns-in-Some-clause-ok : goal.returns-in-Some-clause-ok
returns-in-Some-clause-ok c =
    (became c.extend_at.result c.args.slots.now c.extend_at.new.slots c.in-Some.i c.args.r.serial (λ (b : Slot). record b { words = with_more b.words c.args.more.now }) (λ (b : Block). with_content b (with_more b.content c.args.more.now))
    (λ s. refl) (λ s. refl) c.requires.unique c.in-Some.ensures.found c.extend_at.ensures.ok c.extend_at.ensures.err).ok

pub returns-in-Some-clause-err : goal.returns-in-Some-clause-err
returns-in-Some-clause-err c =
    (became c.extend_at.result c.args.slots.now c.extend_at.new.slots c.in-Some.i c.args.r.serial (λ (b : Slot). record b { words = with_more b.words c.args.more.now }) (λ (b : Block). with_content b (with_more b.content c.args.more.now))
    (λ s. refl) (λ s. refl) c.requires.unique c.in-Some.ensures.found c.extend_at.ensures.ok c.extend_at.ensures.err).err

pub returns-in-None-clause-fault : goal.returns-in-None-clause-fault
returns-in-None-clause-fault c = sym (ap extend_fault (kept_absent c.args.slots.now c.args.r.serial c.in-None.ensures.absent))

pub returns-in-None-clause-err : goal.returns-in-None-clause-err
returns-in-None-clause-err c = same_slots c.args.slots.now
