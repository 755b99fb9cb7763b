-- Processes stand for one another while others step, and hold the same where what the machine's refers to is there.
use Rattle.std.proofs.Common.{◌≡◌, ℕ, ◌<◌, List, [], Option, Some, inl, inr, sym, ap, subst, ◌∙◌}
use Rattle.heap_model.specs.Heap.{there}
use Rattle.heap_model.specs.Facts.{Fact, IsFree, Free}
use Rattle.heap_model.specs.Worlds.{WorldsAlike}
use Rattle.limbo_typed.specs.Typed as typed
use Rattle.limbo_meaning.specs.Process.{Shared}
use Rattle.core_code.specs.Machine as code
use Rattle.dis_meaning.specs.Process.{Process}
use Rattle.dis_memory.specs.Blocks.{Block, World}
use Rattle.dis_memory.specs.Naming as machine
use Rattle.value_words.specs.Facts.{Facts}
use Rattle.value_frames.specs.Slots.{IsKept}
use Rattle.value_follows.specs.Stands.{Answer, Awaited, Stands, Ready}
use Rattle.value_follows.specs.Sides.{of_values, sides, HoldTheSame}
use Rattle.value_follows.specs.Kept.{SameFrame}
use Rattle.value_follows.specs.Rooted.{IsAmong, OnTheWay, BusyLead}
use Rattle.value_follows.specs.Rows.{AreThere}
use Rattle.value_follows.proofs.Kept.{stands_keep}
use Rattle.value_follows.proofs.RootedProcesses.{stands_rooted}

module _ (m : typed.Module) (i : ℕ) where
  -- ---- while others step

  module _ (k now : Facts) (x y : World) (p : code.Process) (q : Process) (left : (sides m).leaves i k now x y)
      (holds : HoldTheSame m now i y p q) where
    pub ready_later : (r : Ready m k i x p q) → (after : Ready m now i y p q) × (after.stands.is.number ≡ r.stands.is.number)
    ready_later r =
        let there = (stands_keep m).owned_held k now i x y [] Awaited p q r.stands left.0 (code.process_names p) holds holds.same.live in
        let still = (stands_keep m).ready_later k now i x y p q r left.0 left.1 there in
        (still.after, still.frame.number)

    pub stands_later : (busy : List ℕ) (a : Answer) (s : Stands m k i x busy a p q)
        → (after : Stands m now i y busy a p q) × SameFrame m k now i x y s.is after.is
    stands_later busy a s =
        let there = (stands_keep m).owned_held k now i x y busy a p q s left.0 (code.process_names p) holds holds.same.live in
        let still = (stands_keep m).later k now i x y busy a p q s left.0 left.1 there in
        (still.after, still.frame)

    pub mine_later : (b : ℕ) → 0 < machine.names q b → Free k b → k.maker b ≡ Some i → IsKept now x.heap y.heap b
    mine_later b named free made = elim (left.0.free b free made) [
      | inl w ↦ (subst (λ (o : Option (Fact Block)). IsFree o) (sym w.0) free, w.1)
      | inr w ↦ absurd (let z = sym (ap there w.1) ∙ holds.same.live b (holds.same.roots b named) in cc)
    ]

  -- ---- what both hold

  among : (k : Facts) (w : Shared) (x : World) (q : Process) → (sides m).worlds k w x → AreThere m x q → IsAmong m k i x w.heap q
  among k w x q worlds live = record { alike = alike; live = live }
    where
      alike : WorldsAlike (of_values m) k w.heap x.heap
      alike = record {
        unmade = worlds.0.unmade;
        unnamed = worlds.0.unnamed;
        there = λ n v e. let h = worlds.0.there n v e in (h.0, h.1, h.2, h.3, h.4.0);
        here = worlds.0.here;
        texts = worlds.0.texts;
        parts = worlds.0.parts;
        carriers = worlds.0.carriers;
        frees = worlds.0.frees;
        bares = worlds.0.bares;
        closed = worlds.0.closed;
      }

  module _ (k : Facts) (w : Shared) (x : World) (p : code.Process) (q : Process) (worlds : (sides m).worlds k w x)
      (live : AreThere m x q) where
    pub holds_on_way : (busy : List ℕ) (a : Answer) (s : Stands m k i x busy a p q)
        → OnTheWay m k i x (code.process_names p) busy a q s.is.function → BusyLead m k i x busy p q → HoldTheSame m k i x p q
    holds_on_way busy a s way lead = (stands_rooted m).holds k i w.heap x busy a p q s (among k w x q worlds live) way lead

    pub holds_again : Ready m k i x p q → HoldTheSame m k i x p q
    holds_again r = (stands_rooted m).ready_holds k i w.heap x p q r (among k w x q worlds live)
