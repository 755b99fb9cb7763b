-- Blocks of a process's own that its words reach through others of its own are as they were, too, whatever others do.
use Rattle.std.proofs.Common.{◌≡◌, ℕ, ◌<◌, Option, Some, None, sym, ap, ◌∙◌, subst, inl, inr}
use Rattle.heap_model.specs.Heap.{at, there, in_one}
use Rattle.heap_model.specs.Facts.{Fact, IsFree, IsInner, Free}
use Rattle.limbo_typed.specs.Typed as typed
use Rattle.core_code.specs.Machine as code
use Rattle.dis_meaning.specs.Process.{Process}
use Rattle.dis_memory.specs.Blocks.{Block, World}
use Rattle.dis_memory.specs.Naming as machine
use Rattle.dis_memory.specs.Naming.{inside}
use Rattle.value_words.specs.Facts.{Facts}
use Rattle.value_frames.specs.Slots.{IsKept}
use Rattle.value_follows.specs.Sides.{sides, HoldTheSame}

inner_of_free : (o : Option (Fact Block)) → IsFree o → IsInner o
inner_of_free None f = f
inner_of_free (Some Rattle.heap_model.specs.Facts.Bare) f = f
inner_of_free (Some f) g = absurd g

module _ (m : typed.Module) (k now : Facts) (i : ℕ) (x y : World) (p : code.Process) (q : Process) (left : (sides m).leaves i k now x y)
    (hold : HoldTheSame m now i y p q) where
  -- The block is held then.
  abbrev pub HeldThen : ℕ → Type 0
  HeldThen b = 0 < hold.same.own b

  pub held_near : (b : ℕ) → 0 < machine.names q b → HeldThen b
  held_near b named = hold.same.roots b named

  -- what is held is as it was, where it stands for nothing and the process made it
  pub held_kept : (b : ℕ) → HeldThen b → Free k b → k.maker b ≡ Some i → IsKept now x.heap y.heap b
  held_kept b held free made = elim (left.0.free b free made) [
    | inl w ↦ (subst (λ (o : Option (Fact Block)). IsFree o) (sym w.0) free, w.1)
    | inr w ↦ absurd (let z = sym (ap there w.1) ∙ hold.same.live b held in cc)
  ]

  -- and what it refers to is held
  pub held_far : (c b : ℕ) (block : Block) → HeldThen c → Free k c → k.maker c ≡ Some i → at x.heap c ≡ Some block → 0 < inside block b → HeldThen b
  held_far c b block held free made found uses =
      let kept = held_kept c held free made in
      let same : at y.heap c ≡ Some block = kept.1 ∙ found in
      hold.same.within c b held (inner_of_free (now.fact c) kept.0) (used (at y.heap c) same)
    where
      used : (o : Option Block) → o ≡ Some block → 0 < in_one inside o b
      used o e = subst (λ o. 0 < in_one inside o b) (sym e) uses
