-- What stands where references are asked for.
use Rattle.std.proofs.Common.{◌≡◌, ℕ, Option, Some, None, ap, ◌∙◌}
use Rattle.std.specs.Prelude.{IfSome}
use Rattle.std.specs.Option.{option_map}
use Rattle.dis_isa.specs.declared.inst.Operand.{Operand}
use Rattle.ref_heap.specs.declared.word.Ref.{Ref}
use Rattle.ref_heap.specs.Store.{IsHeap, IsLive, AreHeld}
use Rattle.dis_meaning.specs.Words.{Word, Plain, Refer, Address, Found, reference}
use Rattle.dis_memory.specs.Naming.{names}
use Rattle.dis_memory.specs.Places.{source_word}
use Rattle.dis_places.specs.declared.memory.Memory.{Memory}
use Rattle.dis_places.specs.declared.process.Process.{Process}
use Rattle.dis_places.specs.View.{view_process, view_world}
use Rattle.dis_results.proofs.Live.{source_live}

-- Where a reference is found, it stands in the word.
pub refers_there : (w : Word) (r : Option ℕ) → reference w ≡ Found r → w ≡ Refer r
refers_there (Plain n) r e = absurd cc
refers_there (Refer s) r e = let same : s ≡ r = cc in ap Refer same
refers_there (Address place at) r e = absurd cc

-- The block that a source refers to is there.
pub live_source : (m : Memory) (p : Process) → IsHeap m.heap → AreHeld m.heap (names (view_process p)) → (o : Operand) (w : Word) (r : Option Ref) →
    source_word (view_world m) (view_process p) o ≡ Found w → reference w ≡ Found (option_map (λ (r : Ref). r.serial) r) → IfSome r (λ r. IsLive m.heap r.serial)
live_source m p ok held o w None e f = tt
live_source m p ok held o w (Some r) e f = source_live m p ok held o r.serial (e ∙ ap Found (refers_there w (Some r.serial) f))
