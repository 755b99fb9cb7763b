-- A block that was made, and the process at its next instruction.
use Rattle.std.proofs.Common.{◌≡◌, Some, refl, subst}
use Rattle.std.specs.Prelude.{Ok}
use Rattle.dis_meaning.specs.Places.{Spot}
use Rattle.dis_meaning.specs.Process as view
use Rattle.dis_meaning.specs.Words.{Access, Found, Wrong, Raises, Refer, ◌>>=◌}
use Rattle.dis_memory.specs.Blocks.{Block, World, next_serial, with_block}
use Rattle.dis_memory.specs.Places as places
use Rattle.dis_memory.specs.Places.{reference_at, store}
use Rattle.dis_memory.specs.Process.{next}
use Rattle.dis_memory.specs.Results.{gives_block_at}
use Rattle.dis_places.specs.declared.fault.Halt.{Halt}
use Rattle.dis_places.specs.declared.memory.Memory.{Memory}
use Rattle.dis_places.specs.declared.process.Process.{Process}
use Rattle.dis_places.specs.View.{view_process}
use Rattle.dis_places.specs.Words.{Halts}
use Rattle.dis_stores.specs.Storing.{rested, Stores}
use Rattle.dis_blocks.specs.Making.{made}
use Rattle.dis_results.specs.Going.{moved_on, Goes}
use Rattle.dis_results.proofs.Onward.{goes_on, goes_same, halts_next, halts_same}

rests_behind : {T : Type 0} (a : Access T) (b : Access places.Memory) → (a >>= λ t. rested b) ≡ rested (a >>= λ t. b)
rests_behind (Found t) b = refl
rests_behind (Wrong n) b = refl
rests_behind (Raises text) b = refl

goes_behind : {T : Type 0} (a : Access T) (b : Access places.Memory) → (a >>= λ t. b >>= λ m. Found (next m)) ≡ (a >>= (λ t. b) >>= λ m. Found (next m))
goes_behind (Found t) b = refl
goes_behind (Wrong n) b = refl
goes_behind (Raises text) b = refl

module _ (x : World) (q : view.Process) (s : Spot) (b : Block) where
  stored : Access places.Memory
  stored = store (with_block x b) q s (Refer (Some (next_serial x)))

  pub makes_on : (m m' : Memory) (p p1 p2 : Process) → Stores m p (Ok tt) (made x q s b) m' p1 → view_process p2 ≡ moved_on (view_process p1) →
      Goes m p (Ok tt) (gives_block_at x q s (Found b)) m' p2
  unfolding stored
  makes_on m m' p p1 p2 e is =
      goes_same m m' p p2 (Ok tt) (reference_at x q s >>= (λ old. stored) >>= λ m. Found (next m)) (gives_block_at x q s (Found b))
      (goes_behind (reference_at x q s) stored)
      (goes_on m m' p p1 p2 (reference_at x q s >>= λ old. stored)
      (subst (λ a. Stores m p (Ok tt) a m' p1) (rests_behind (reference_at x q s) stored) e) is)

  pub makes_none : (h : Halt) → Halts h (made x q s b) → Halts h (gives_block_at x q s (Found b))
  unfolding stored
  makes_none h e =
      halts_same h (reference_at x q s >>= (λ old. stored) >>= λ m. Found (next m)) (gives_block_at x q s (Found b))
      (goes_behind (reference_at x q s) stored)
      (halts_next h (reference_at x q s >>= λ old. stored)
      (subst (λ a. Halts h a) (rests_behind (reference_at x q s) stored) e))
