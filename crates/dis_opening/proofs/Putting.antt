-- What is put into blocks by a process that has no part in it.
use Rattle.std.proofs.Common.{◌≡◌, ℕ, ◌+◌, List, Result, Ok, Err, refl, ap, arith}
use Rattle.std.specs.Prelude.{IfOk, OnOk}
use Rattle.ref_heap.specs.declared.word.Word as code_word
use Rattle.ref_heap.specs.Store.{outside}
use Rattle.dis_meaning.specs.Words.{Word, Access, Found, Wrong, Raises, ◌>>=◌}
use Rattle.dis_meaning.specs.Process as view
use Rattle.dis_memory.specs.Blocks.{World}
use Rattle.dis_memory.specs.Naming.{names}
use Rattle.dis_memory.specs.Places.{Memory, memory, with_data}
use Rattle.dis_places.specs.declared.fault.Halt.{Halt}
use Rattle.dis_places.specs.declared.fault.Halt.TheVariants as halt
use Rattle.dis_places.specs.declared.memory.Memory as code_memory
use Rattle.dis_places.specs.declared.process.Process.{Process}
use Rattle.dis_places.specs.View.{view_process}
use Rattle.dis_places.specs.Words.{number_of, raised_text, Halts, Gives}
use Rattle.dis_stores.specs.Storing.{named, rested, settled, Exchanges}
use Rattle.dis_results.specs.Going.{HoldsAlike}

-- A change of a block's words, as one of memory and a process.
pub as_memory : (x : World) (p : view.Process) (n : ℕ) (f : List Word → Access (List Word)) (a : Access (List Word)) →
    rested (a >>= λ words. f words >>= λ ws. with_data x n ws >>= λ y. Found (memory y p)) ≡ (a >>= f >>= with_data x n >>= λ y. Found (memory y (settled p)))
as_memory x p n f (Found words) = after (f words)
  where
    back : (a : Access World) → rested (a >>= λ y. Found (memory y p)) ≡ (a >>= λ y. Found (memory y (settled p)))
    back (Found y) = refl
    back (Wrong m) = refl
    back (Raises text) = refl

    after : (a : Access (List Word)) → rested (a >>= λ ws. with_data x n ws >>= λ y. Found (memory y p)) ≡ (a >>= with_data x n >>= λ y. Found (memory y (settled p)))
    after (Found ws) = back (with_data x n ws)
    after (Wrong m) = refl
    after (Raises text) = refl
as_memory x p n f (Wrong m) = refl
as_memory x p n f (Raises text) = refl

module _ (y : World) (p q : view.Process) where
  halts_alone : (h : Halt) (a : Access World) → Halts h (a >>= λ y. Found (memory y p)) → Halts h a
  halts_alone halt.NoMemory a h = tt
  halts_alone (halt.Fault f) (Found z) h = absurd cc
  halts_alone (halt.Fault f) (Wrong n) h = let same : n ≡ number_of f = cc in ap Wrong same
  halts_alone (halt.Fault f) (Raises text) h = absurd cc
  halts_alone (halt.Raises r) (Found z) h = absurd cc
  halts_alone (halt.Raises r) (Wrong n) h = absurd cc
  halts_alone (halt.Raises r) (Raises text) h = let same : text ≡ raised_text r = cc in ap Raises same

  found_alone : (a : Access World) → (a >>= λ y. Found (memory y p)) ≡ Found (memory y q) → (a ≡ Found y) × (p ≡ q)
  found_alone (Found z) e =
      let same : memory z p ≡ memory y q = cc in
      (ap (λ (m : Memory). Found m.world) same, ap (λ (m : Memory). m.process) same)
  found_alone (Wrong n) e = absurd cc
  found_alone (Raises text) e = absurd cc

  -- The world alone.
  pub gives_alone : {R : Type 0} (r : Result R Halt) (a : Access World) → Gives (λ _. memory y q) r (a >>= λ y. Found (memory y p)) → Gives (λ _. y) r a
  gives_alone (Ok s) a h = (found_alone a h).0
  gives_alone (Err e) a h = halts_alone e a h

  pub process_alone : {R : Type 0} (r : Result R Halt) (a : Access World) → Gives (λ _. memory y q) r (a >>= λ y. Found (memory y p)) → OnOk r (p ≡ q)
  process_alone (Ok s) a h = (found_alone a h).1
  process_alone (Err e) a h = tt

module _ (m m' : code_memory.Memory) (p p' : Process) where
  names_same : settled (view_process p) ≡ settled (view_process p') → (n : ℕ) → names (view_process p) n ≡ names (view_process p') n
  names_same e n = ap (λ q. names q n) e

  pub exchanged_alone : (r : Result code_word.Word Halt) (new : code_word.Word) → OnOk r (settled (view_process p) ≡ settled (view_process p')) →
      IfOk r (Exchanges m p m' p' new) → IfOk r (λ was. (n : ℕ) → outside m'.heap n + named new n ≡ outside m.heap n + named was n)
  exchanged_alone (Ok was) new e h = λ n. let a = names_same e n in let b = h n in omega (arith, a, b)
  exchanged_alone (Err f) new e h = tt

  pub held_alone : (r : Result (Unit {0}) Halt) → OnOk r (settled (view_process p) ≡ settled (view_process p')) →
      OnOk r (HoldsAlike m p m' p') → OnOk r ((n : ℕ) → outside m'.heap n ≡ outside m.heap n)
  held_alone (Ok u) e h = λ n. let a = names_same e n in let b = h.held n in omega (arith, a, b)
  held_alone (Err f) e h = tt

  pub tables_alone : (r : Result (Unit {0}) Halt) → OnOk r (HoldsAlike m p m' p') → OnOk r (m'.tables ≡ m.tables)
  tables_alone (Ok u) h = h.tables
  tables_alone (Err f) h = tt
