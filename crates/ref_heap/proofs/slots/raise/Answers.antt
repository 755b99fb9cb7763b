use Rattle.std.proofs.Common.{sym, ap, ◌∙◌, refl, ◌+◌}
use Rattle.ref_heap.specs.declared.slots.Slot.{Slot}
use Rattle.ref_heap.specs.Answers.{hold_answer}
use Rattle.ref_heap.specs.Store.{one_more}
use Rattle.ref_heap.proofs.Places.{became, kept_here, kept_absent, same_slots}
use Rattle.ref_heap.proofs.slots.raise.Goals as goal

pub returns-in-Some-clause-unique : goal.returns-in-Some-clause-unique
returns-in-Some-clause-unique c =
    (became c.raise_at.result c.args.slots.now c.raise_at.new.slots c.in-Some.i c.args.r.serial (λ (b : Slot). record b { count = b.count + 1 }) one_more (λ s. refl) (λ s. refl) c.requires c.in-Some.ensures.found c.raise_at.ensures.ok c.raise_at.ensures.err).unique

pub returns-in-Some-clause-answer : goal.returns-in-Some-clause-answer
returns-in-Some-clause-answer c = c.raise_at.ensures.answer c.in-Some.ensures.found.block c.in-Some.ensures.found.is ∙ ap hold_answer (sym (kept_here c.args.slots.now c.in-Some.i c.args.r.serial c.requires c.in-Some.ensures.found))

pub returns-in-Some-clause-ok : goal.returns-in-Some-clause-ok
returns-in-Some-clause-ok c =
    (became c.raise_at.result c.args.slots.now c.raise_at.new.slots c.in-Some.i c.args.r.serial (λ (b : Slot). record b { count = b.count + 1 }) one_more (λ s. refl) (λ s. refl) c.requires c.in-Some.ensures.found c.raise_at.ensures.ok c.raise_at.ensures.err).ok

pub returns-in-Some-clause-err : goal.returns-in-Some-clause-err
returns-in-Some-clause-err c =
    (became c.raise_at.result c.args.slots.now c.raise_at.new.slots c.in-Some.i c.args.r.serial (λ (b : Slot). record b { count = b.count + 1 }) one_more (λ s. refl) (λ s. refl) c.requires c.in-Some.ensures.found c.raise_at.ensures.ok c.raise_at.ensures.err).err

pub returns-in-None-clause-answer : goal.returns-in-None-clause-answer
returns-in-None-clause-answer c = sym (ap hold_answer (kept_absent c.args.slots.now c.args.r.serial c.in-None.ensures.absent))

pub returns-in-None-clause-err : goal.returns-in-None-clause-err
returns-in-None-clause-err c = same_slots c.args.slots.now
