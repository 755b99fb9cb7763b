-- Changes that follow one another, and stores that raise nothing.
use Rattle.std.proofs.Common.{◌≡◌, ℕ, ℤ, ◌+◌, ◌≤◌, Bool, true, false, List, [], ◌∷◌, Option, Some, None, refl, ap, ◌∙◌, subst, arith, if◌then◌else◌}
use Rattle.std.specs.Prelude.{pos, negsuc, slice_get, slice_set, ◌%◌, ◌/◌, ◌==◌, nat_eq}
use Rattle.heap_model.specs.Heap as heap_list
use Rattle.heap_model.specs.Heap.{stays}
use Rattle.heap_cuts.proofs.Sooner.{early, twice_early}
use Rattle.ref_heap.specs.declared.kind.Kind.{Kind}
use Rattle.ref_heap.specs.declared.kind.Kind.TheVariants as kind
use Rattle.ref_heap.specs.Words.{Content}
use Rattle.ref_heap.specs.Store.{AreHeld, outside}
use Rattle.dis_meaning.specs.Words.{Place, InBlock, InFrame, Word, Refer, Access, Found, Wrong, Raises, ◌>>=◌, type_check, dead_address, or_wrong, fits, stored, word_number}
use Rattle.dis_meaning.specs.Process as view
use Rattle.dis_meaning.specs.Process.{Frame}
use Rattle.dis_meaning.specs.Places.{Spot, Far, words_in, all_frames}
use Rattle.dis_memory.specs.Blocks.{Block, Record, Text, Array, Part, Cell, Channel, Instance, Sys, World, reached, with_block, next_serial}
use Rattle.dis_memory.specs.Control.{function_of}
use Rattle.dis_memory.specs.Naming.{inside, names}
use Rattle.dis_memory.specs.Places as places
use Rattle.dis_memory.specs.Process.{next}
use Rattle.dis_memory.specs.Results.{gives_block_at}
use Rattle.dis_places.specs.declared.fault.Halt.{Halt}
use Rattle.dis_places.specs.declared.fault.Halt.TheVariants as halt
use Rattle.dis_places.specs.declared.fault.Raise.{Raise}
use Rattle.dis_places.specs.declared.memory.Memory.{Memory}
use Rattle.dis_places.specs.declared.memory.Tables.{Tables}
use Rattle.dis_places.specs.declared.process.Process.{Process}
use Rattle.dis_places.specs.Blocks.{block_by}
use Rattle.dis_places.specs.View.{view_process, view_world}
use Rattle.dis_places.specs.Words.{raised_text, Halts}
use Rattle.dis_stores.specs.Storing.{rested, Settles}
use Rattle.dis_blocks.specs.Making.{made}

-- What was let go behind a change goes with what the change let go.
pub settles_twice : (m n l : Memory) (p q r : Process) (x : World) → Settles m p x n q → Settles n q (view_world n) l r →
    ((k : ℕ) → outside l.heap k ≤ outside n.heap k) → Settles m p x l r
settles_twice m n l p q r x a b less = record {
  held = λ k. let h = a.held k in let g = b.held k in omega (arith, h, g);
  heap =
      b.heap ∙ ap (stays inside (outside l.heap)) a.heap
      ∙ early inside (outside l.heap) x.heap (stays inside (outside n.heap) x.heap) (twice_early inside (outside n.heap) (outside l.heap) x.heap less);
  outer = b.outer ∙ a.outer;
  tables = b.tables ∙ a.tables;
}

-- What a process refers to is held behind a change.
pub held_behind : (m n : Memory) (p q : Process) → ((k : ℕ) → outside n.heap k + names (view_process p) k ≡ outside m.heap k + names (view_process q) k) →
    AreHeld m.heap (names (view_process p)) → AreHeld n.heap (names (view_process q))
held_behind m n p q e held k = let a = e k in let b = held k in omega (arith, a, b)

-- Sys alone has functions.
pub no_function : (t : Tables) (k : Kind) (c : Content) (n : ℕ) → ((names : ℕ) → k ≡ kind.Sys names → ⊥) → function_of (block_by t k c) n ≡ Wrong type_check
no_function t kind.Record c n other = refl
no_function t (kind.Fd number) c n other = refl
no_function t kind.Text c n other = refl
no_function t (kind.Array element long) c n other = refl
no_function t (kind.Slice from long) c n other = refl
no_function t kind.Cell c n other = refl
no_function t (kind.Channel element) c n other = refl
no_function t (kind.Instance object) c n other = refl
no_function t (kind.Sys names) c n other = absurd (other names refl)

-- ---- a store by an address raises nothing

abbrev Calm : {T : Type 0} → Access T → Type 0
Calm (Found t) = Unit {0}
Calm (Wrong n) = Unit {0}
Calm (Raises text) = ⊥

calm_then : {S T : Type 0} (a : Access S) (f : S → Access T) → Calm a → ((s : S) → Calm (f s)) → Calm (a >>= f)
calm_then (Found s) f c g = g s
calm_then (Wrong n) f c g = tt
calm_then (Raises text) f c g = c

calm_or : {T : Type 0} (n : ℕ) (o : Option T) → Calm (or_wrong n o)
calm_or n None = tt
calm_or n (Some t) = tt

calm_number : (at : ℤ) → Calm (word_number at)
calm_number (negsuc n) = tt
calm_number (pos n) = go (n % 4 == 0)
  where
    go : (b : Bool) → Calm (if b then Found (n / 4) else Wrong type_check)
    go true = tt
    go false = tt

calm_reached : (b : Block) → Calm (reached b)
calm_reached (Record ws) = tt
calm_reached (Text cs) = tt
calm_reached (Array element long ws) = tt
calm_reached (Part array start long) = tt
calm_reached (Cell element rest) = tt
calm_reached (Channel element) = tt
calm_reached (Instance object ws) = tt
calm_reached (Sys names) = tt

calm_frames : (s : ℕ) (fs : List Frame) → Calm (words_in s fs)
calm_frames s [] = tt
calm_frames s (f ∷ fs) = go (nat_eq f.serial s) (calm_frames s fs)
  where
    go : (b : Bool) → Calm (words_in s fs) → Calm (if b then Found f.words else words_in s fs)
    go true rest = tt
    go false rest = rest

calm_stored : (ws : List Word) (at : ℤ) (w : Word) → Calm (stored ws at w)
calm_stored ws at w =
    calm_then (word_number at) _ (calm_number at)
    (λ k. calm_then (or_wrong type_check (slice_get ws k)) _ (calm_or type_check (slice_get ws k)) (λ old. go k (fits old w)))
  where
    go : (k : ℕ) (b : Bool) → Calm (if b then Found (slice_set ws k w) else Wrong type_check)
    go k true = tt
    go k false = tt

module _ (x : World) (p : view.Process) (at : ℤ) (w : Word) where
  calm_store : (place : Place) → Calm (rested (places.store x p (Far place at) w))
  calm_store (InFrame s) =
      calm_then (places.store x p (Far (InFrame s) at) w) _
      (calm_then (words_in s (all_frames p)) _ (calm_frames s (all_frames p)) (λ ws. calm_then (stored ws at w) _ (calm_stored ws at w) (λ after. tt)))
      (λ m. tt)
  calm_store (InBlock n) =
      calm_then (places.store x p (Far (InBlock n) at) w) _
      (calm_then (places.data_at x n) _ (calm_then (or_wrong dead_address (heap_list.at x.heap n)) _ (calm_or dead_address (heap_list.at x.heap n)) calm_reached)
      (λ ws. calm_then (stored ws at w) _ (calm_stored ws at w)
      (λ after. calm_then (places.with_data x n after) _
      (calm_then (or_wrong dead_address (heap_list.at x.heap n)) _ (calm_or dead_address (heap_list.at x.heap n)) (λ b. tt)) (λ y. tt))))
      (λ m. tt)

  pub never_raises : (place : Place) (text : List ℕ) → rested (places.store x p (Far place at) w) ≡ Raises text → ⊥
  never_raises place text e = subst Calm e (calm_store place)

pub no_raise : (x : World) (p : view.Process) (at : ℤ) (w : Word) (place : Place) (h : Halt) (r : Raise) → h ≡ halt.Raises r →
    Halts h (rested (places.store x p (Far place at) w)) → ⊥
no_raise x p at w place h r is e = never_raises x p at w place (raised_text r) (subst (λ h. Halts h (rested (places.store x p (Far place at) w))) is e)

-- ---- a block that is made and goes to a destination

module _ (x : World) (p : view.Process) (s : Spot) (b : Block) where
  -- Where a reference stands, one to the block is stored.
  abbrev pub block_stored : Access places.Memory
  block_stored = places.reference_at x p s >>= λ old. places.store (with_block x b) p s (Refer (Some (next_serial x)))

  pub block_given : gives_block_at x p s (Found b) ≡ (block_stored >>= λ m. Found (next m))
  block_given = go (places.reference_at x p s)
    where
      go : (a : Access (Option ℕ)) →
          (a >>= λ old. places.store (with_block x b) p s (Refer (Some (next_serial x))) >>= λ m. Found (next m)) ≡
          (a >>= (λ old. places.store (with_block x b) p s (Refer (Some (next_serial x)))) >>= λ m. Found (next m))
      go (Found old) = refl
      go (Wrong n) = refl
      go (Raises text) = refl

  pub block_made : made x p s b ≡ rested block_stored
  block_made = go (places.reference_at x p s)
    where
      go : (a : Access (Option ℕ)) →
          (a >>= λ old. rested (places.store (with_block x b) p s (Refer (Some (next_serial x))))) ≡
          rested (a >>= λ old. places.store (with_block x b) p s (Refer (Some (next_serial x))))
      go (Found old) = refl
      go (Wrong n) = refl
      go (Raises text) = refl
