use Rattle.std.proofs.Common.{ap, inl, inr, ◌∙◌, ℕ, refl, arith}
use Rattle.ref_heap.specs.declared.slots.Slot.{Slot}
use Rattle.slab.proofs.SlabLemmas.{Contains-cons, Contains-cons_cases, Contains-entries}
use Rattle.ref_heap.proofs.slots.scan.Goals as goal

pub loop-i-init : goal.loop-i-init
loop-i-init c =
    let left = c.into_iter-i-iterator.ensures.into_iter_gives ∙ c.iter-i-items.ensures.rest in (
      tt,
      tt,
      λ key b found e. rw left ((Contains-entries c.args.slots.now key b).1 found),
      λ key b there. (Contains-entries c.args.slots.now key b).0 (rw left at there),
    )

pub loop-i-preserved : goal.loop-i-preserved
loop-i-preserved c =
    let at = c.in-Some.ensures.steps in (
      tt,
      tt,
      λ key b found e. elim (Contains-cons_cases _ _ _ (rw at at (c.loop-i.invariant.2 key b found e))) [
        | inl same ↦ absurd (c.if-block-serial.false (ap (λ (x : ℕ × Slot). x.1.serial) same ∙ e))
        | inr rest ↦ rest
      ],
      λ key b there. c.loop-i.invariant.3 key b (rw at (Contains-cons _ _ _ there)),
    )

pub returns-then-block-serial-clause-found : goal.returns-then-block-serial-clause-found
returns-then-block-serial-clause-found c =
    let at = c.in-Some.ensures.steps in
    record { block = c.in-Some.block.now; is = c.loop-i.invariant.3 c.in-Some.i c.in-Some.block.now (rw at (0, omega arith, refl)); has_serial = c.if-block-serial.true }
