use Rattle.std.proofs.Common.{Option, sym, ap, ◌∙◌, refl}
use Rattle.ref_heap.specs.declared.slots.Slot.{Slot}
use Rattle.ref_heap.specs.Answers.{set_answer}
use Rattle.ref_heap.specs.Words.{cell_of, with_cell}
use Rattle.ref_heap.specs.Store.{Block, with_content}
use Rattle.ref_heap.proofs.Places.{became, kept_here, kept_absent, same_slots}
use Rattle.ref_heap.proofs.slots.put.Goals as goal

pub returns-in-Some-clause-unique : goal.returns-in-Some-clause-unique
returns-in-Some-clause-unique c =
    (became c.put_at.result c.args.slots.now c.put_at.new.slots c.in-Some.i c.args.r.serial (λ (b : Slot). record b { words = with_cell b.words c.args.at (cell_of c.args.word) }) (λ (b : Block). with_content b (with_cell b.content c.args.at (cell_of c.args.word)))
    (λ s. refl) (λ s. refl) c.requires c.in-Some.ensures.found c.put_at.ensures.ok c.put_at.ensures.err).unique

pub returns-in-Some-clause-answer : goal.returns-in-Some-clause-answer
returns-in-Some-clause-answer c = c.put_at.ensures.answer c.in-Some.ensures.found.block c.in-Some.ensures.found.is
    ∙ ap (λ (b : Option Block). set_answer b c.args.at (cell_of c.args.word)) (sym (kept_here c.args.slots.now c.in-Some.i c.args.r.serial c.requires c.in-Some.ensures.found))

pub returns-in-Some-clause-ok : goal.returns-in-Some-clause-ok
returns-in-Some-clause-ok c =
    (became c.put_at.result c.args.slots.now c.put_at.new.slots c.in-Some.i c.args.r.serial (λ (b : Slot). record b { words = with_cell b.words c.args.at (cell_of c.args.word) }) (λ (b : Block). with_content b (with_cell b.content c.args.at (cell_of c.args.word)))
    (λ s. refl) (λ s. refl) c.requires c.in-Some.ensures.found c.put_at.ensures.ok c.put_at.ensures.err).ok

pub returns-in-Some-clause-err : goal.returns-in-Some-clause-err
returns-in-Some-clause-err c =
    (became c.put_at.result c.args.slots.now c.put_at.new.slots c.in-Some.i c.args.r.serial (λ (b : Slot). record b { words = with_cell b.words c.args.at (cell_of c.args.word) }) (λ (b : Block). with_content b (with_cell b.content c.args.at (cell_of c.args.word)))
    (λ s. refl) (λ s. refl) c.requires c.in-Some.ensures.found c.put_at.ensures.ok c.put_at.ensures.err).err

pub returns-in-None-clause-answer : goal.returns-in-None-clause-answer
returns-in-None-clause-answer c = sym (ap (λ (b : Option Block). set_answer b c.args.at (cell_of c.args.word)) (kept_absent c.args.slots.now c.args.r.serial c.in-None.ensures.absent))

pub returns-in-None-clause-ok : goal.returns-in-None-clause-ok
returns-in-None-clause-ok c b is = tt

pub returns-in-None-clause-err : goal.returns-in-None-clause-err
returns-in-None-clause-err c = same_slots c.args.slots.now
