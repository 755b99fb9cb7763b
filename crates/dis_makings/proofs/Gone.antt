-- A block that was made, and the process at its next instruction.
use Rattle.std.proofs.Common.{◌≡◌, Some, Result, Ok, Err, OnOk, refl, sym, subst}
use Rattle.dis_meaning.specs.Words.{Refer, Access, Found, Wrong, Raises, ◌>>=◌}
use Rattle.dis_meaning.specs.Places.{Spot}
use Rattle.dis_memory.specs.Blocks as blocks
use Rattle.dis_memory.specs.Places as places
use Rattle.dis_memory.specs.Process.{next}
use Rattle.dis_memory.specs.Results.{gives_block_at}
use Rattle.dis_places.specs.declared.fault.Halt.{Halt}
use Rattle.dis_places.specs.declared.memory.Memory.{Memory}
use Rattle.dis_places.specs.declared.process.Process.{Process}
use Rattle.dis_places.specs.View.{view_process, view_world}
use Rattle.dis_stores.specs.Storing.{rested, Stores}
use Rattle.dis_blocks.specs.Making.{made}
use Rattle.dis_blocks.proofs.Bare.{stores_same}
use Rattle.dis_results.specs.Going.{moved_on, Goes}
use Rattle.dis_results.proofs.Onward.{goes_on, goes_same, halts_next, halts_same}

as_rested : {T : Type 0} (a : Access T) (b : Access places.Memory) → (a >>= λ old. rested b) ≡ rested (a >>= λ old. b)
as_rested (Found t) b = refl
as_rested (Wrong n) b = refl
as_rested (Raises text) b = refl

as_next : {T : Type 0} (a : Access T) (b : Access places.Memory) → (a >>= λ old. b >>= λ m. Found (next m)) ≡ (a >>= (λ old. b) >>= λ m. Found (next m))
as_next (Found t) b = refl
as_next (Wrong n) b = refl
as_next (Raises text) b = refl

pub given : (m m' : Memory) (p p1 p2 : Process) (s : Spot) (b : blocks.Block) (r q : Result (Unit {0}) Halt) → q ≡ r →
    Stores m p r (made (view_world m) (view_process p) s b) m' p1 → OnOk r (view_process p2 ≡ moved_on (view_process p1)) →
    Goes m p q (gives_block_at (view_world m) (view_process p) s (Found b)) m' p2
given m m' p p1 p2 s b r q same made_so on =
    subst (λ r. Goes m p r (gives_block_at (view_world m) (view_process p) s (Found b)) m' p2) (sym same) (go r made_so on)
  where
    x : blocks.World
    x = view_world m

    store_new : Access places.Memory
    store_new = places.store (blocks.with_block (view_world m) b) (view_process p) s (Refer (Some (blocks.next_serial (view_world m))))

    a : Access places.Memory
    a = places.reference_at (view_world m) (view_process p) s >>= λ old. store_new

    go : (r : Result (Unit {0}) Halt) → Stores m p r (made (view_world m) (view_process p) s b) m' p1 → OnOk r (view_process p2 ≡ moved_on (view_process p1)) →
        Goes m p r (gives_block_at (view_world m) (view_process p) s (Found b)) m' p2
    go (Ok u) h e =
        goes_same m m' p p2 (Ok tt) (a >>= λ m. Found (next m)) _ (as_next (places.reference_at x (view_process p) s) store_new)
        (goes_on m m' p p1 p2 a (stores_same m m' p p1 (Ok tt) _ _ (as_rested (places.reference_at x (view_process p) s) store_new) h) e)
    go (Err e) h on =
        halts_same e _ _ (as_next (places.reference_at x (view_process p) s) store_new)
        (halts_next e a (stores_same m m' p p1 (Err e) _ _ (as_rested (places.reference_at x (view_process p) s) store_new) h))
