-- A process that goes on, in the memory that it had.
use Rattle.std.proofs.Common.{◌≡◌, ℕ, ◌+◌, Bool, true, false, refl, sym, ap, ◌∙◌, if◌then◌else◌}
use Rattle.std.specs.Prelude.{Ok}
use Rattle.process_model.specs.Process.{Went}
use Rattle.ref_heap.specs.Store.{IsHeap, outside}
use Rattle.dis_meaning.specs.Words.{Access, Found}
use Rattle.dis_meaning.specs.Process as view
use Rattle.dis_memory.specs.Blocks.{World}
use Rattle.dis_memory.specs.Naming.{names}
use Rattle.dis_memory.specs.Places.{memory}
use Rattle.dis_memory.specs.Process.{Does, jumps, next}
use Rattle.dis_places.specs.declared.memory.Memory.{Memory}
use Rattle.dis_places.specs.declared.process.Process.{Process}
use Rattle.dis_places.specs.View.{view_process, view_world}
use Rattle.dis_code.specs.Jumps.{gone_to}
use Rattle.dis_results.specs.Going.{moved_on, Goes}
use Rattle.dis_results.proofs.Alike.{alike_settles}

branched : (b : Bool) (x : World) (p : view.Process) (pc : ℕ) → (if b then jumps x p pc else next (memory x p)) ≡ Went x (if b then gone_to p pc else moved_on p)
branched true x p pc = refl
branched false x p pc = refl

names_branched : (b : Bool) (p : view.Process) (pc n : ℕ) → names (if b then gone_to p pc else moved_on p) n ≡ names p n
names_branched true p pc n = refl
names_branched false p pc n = refl

-- Nothing is stored, and the process goes on there or with the next instruction.
pub goes_there : (m : Memory) (p p' : Process) (b : Bool) (pc : ℕ) (a : Access Does) → IsHeap m.heap →
    view_process p' ≡ (if b then gone_to (view_process p) pc else moved_on (view_process p)) →
    a ≡ Found (if b then jumps (view_world m) (view_process p) pc else next (memory (view_world m) (view_process p))) →
    Goes m p (Ok tt) a m p'
goes_there m p p' b pc a ok is e = (
  view_world m,
  e ∙ ap Found (branched b (view_world m) (view_process p) pc) ∙ ap (λ q. Found (Went (view_world m) q)) (sym is),
  alike_settles m m p p' ok
      (record {
        held = λ n. ap (λ k. outside m.heap n + k) (sym (ap (λ q. names q n) is ∙ names_branched b (view_process p) pc n));
        tables = refl;
      }),
)
