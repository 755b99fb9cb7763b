-- A process that goes on with the next instruction.
use Rattle.std.proofs.Common.{◌≡◌, ℕ, ◌+◌, sym, ap, ◌∙◌, subst}
use Rattle.std.specs.Prelude.{Result, Ok}
use Rattle.process_model.specs.Process.{Went}
use Rattle.ref_heap.specs.Store.{outside}
use Rattle.dis_meaning.specs.Words.{Access, Found, Wrong, Raises, ◌>>=◌}
use Rattle.dis_meaning.specs.Process as view
use Rattle.dis_memory.specs.Blocks.{World}
use Rattle.dis_memory.specs.Naming.{names}
use Rattle.dis_memory.specs.Places as places
use Rattle.dis_memory.specs.Process.{Does, next}
use Rattle.dis_places.specs.declared.fault.Halt.{Halt}
use Rattle.dis_places.specs.declared.fault.Halt.TheVariants as halt
use Rattle.dis_places.specs.declared.memory.Memory.{Memory}
use Rattle.dis_places.specs.declared.process.Process.{Process}
use Rattle.dis_places.specs.View.{view_process}
use Rattle.dis_places.specs.Words.{number_of, raised_text, Halts}
use Rattle.dis_stores.specs.Storing.{rested, settled, IsNoMemory, Settles, Stores}
use Rattle.dis_results.specs.Going.{moved_on, Goes}

-- Where a process stands in its code names no block.
names_on : (p : Process) (q : view.Process) (n : ℕ) → view_process p ≡ moved_on q → names (view_process p) n ≡ names q n
names_on p q n e = ap (λ q. names q n) e

settles_on : (m m' : Memory) (p p1 p2 : Process) (x : World) → view_process p2 ≡ moved_on (view_process p1) → Settles m p x m' p1 → Settles m p x m' p2
settles_on m m' p p1 p2 x e s = record {
  held = λ n. s.held n ∙ ap (λ k. outside m.heap n + k) (sym (names_on p2 (view_process p1) n e));
  heap = s.heap;
  outer = s.outer;
  tables = s.tables;
}

went_on : (a : Access places.Memory) (x : World) (p : view.Process) → rested a ≡ Found (places.memory x (settled p)) → (a >>= λ m. Found (next m)) ≡ Found (Went x (moved_on p))
went_on (Found m) x p e =
    let same : places.memory m.world (settled m.process) ≡ places.memory x (settled p) = cc in
    ap (λ (n : places.Memory). Found (Went n.world (moved_on n.process))) same
went_on (Wrong n) x p e = absurd cc
went_on (Raises text) x p e = absurd cc

-- What was stored, and the process at its next instruction.
pub goes_on : (m m' : Memory) (p p1 p2 : Process) (a : Access places.Memory) → Stores m p (Ok tt) (rested a) m' p1 → view_process p2 ≡ moved_on (view_process p1) →
    Goes m p (Ok tt) (a >>= λ m. Found (next m)) m' p2
goes_on m m' p p1 p2 a s e =
    (s.0, went_on a s.0 (view_process p1) s.1 ∙ ap (λ q. Found (Went s.0 q)) (sym e), settles_on m m' p p1 p2 s.0 e s.2)

-- A fault, and what is raised, come instead.
pub halts_next : (h : Halt) (a : Access places.Memory) → Halts h (rested a) → Halts h (a >>= λ m. Found (next m))
halts_next halt.NoMemory a e = tt
halts_next (halt.Fault f) (Found m) e = absurd cc
halts_next (halt.Fault f) (Wrong n) e = let same : n ≡ number_of f = cc in ap Wrong same
halts_next (halt.Fault f) (Raises text) e = absurd cc
halts_next (halt.Raises r) (Found m) e = absurd cc
halts_next (halt.Raises r) (Wrong n) e = absurd cc
halts_next (halt.Raises r) (Raises text) e = let same : text ≡ raised_text r = cc in ap Raises same

-- The same, told in other words.
pub goes_same : (m m' : Memory) (p p' : Process) (r : Result (Unit {0}) Halt) (a b : Access Does) → b ≡ a → Goes m p r a m' p' → Goes m p r b m' p'
goes_same m m' p p' r a b e g = subst (λ a. Goes m p r a m' p') (sym e) g

pub halts_same : {T : Type 0} (h : Halt) (a b : Access T) → b ≡ a → Halts h a → Halts h b
halts_same h a b e g = subst (λ a. Halts h a) (sym e) g

-- What was found doesn't halt for another reason than want of memory.
pub never : {T : Type 0} (h : Halt) (a : Access T) (t : T) → a ≡ Found t → Halts h a → (IsNoMemory h → ⊥) → ⊥
never halt.NoMemory a t e g sure = sure tt
never (halt.Fault f) a t e g sure = absurd cc
never (halt.Raises r) a t e g sure = absurd cc
