-- What is stored, and what is held and let go by it.
use Rattle.std.specs.Prelude.{◌≡◌, ℕ, ℤ, ◌+◌, Bool, true, false, [], ◌∷◌, Result, Ok, Err}
use Rattle.std.specs.Option.{option_map}
use Rattle.heap_model.specs.Heap.{stays}
use Rattle.ref_heap.specs.declared.word.Word as code_word
use Rattle.ref_heap.specs.Words.{Cell, plain, refer, in_block, in_frame, cell_of, naming}
use Rattle.ref_heap.specs.Store.{Store, at, outside}
use Rattle.heap_cuts.specs.Shapes.{shape_of, shapes}
use Rattle.dis_meaning.specs.Words.{Word, Access, Found, ◌>>=◌, word_at, stored}
use Rattle.dis_meaning.specs.Process.{Process, with_frames}
use Rattle.dis_meaning.specs.Places.{words_in, all_frames, with_frame_words}
use Rattle.dis_memory.specs.Blocks.{World}
use Rattle.dis_memory.specs.Naming.{inside, names}
use Rattle.dis_memory.specs.Places as places
use Rattle.dis_memory.specs.Places.{data_at, with_data}
use Rattle.dis_places.specs.declared.fault.Halt.{Halt}
use Rattle.dis_places.specs.declared.fault.Halt.TheVariants as halt
use Rattle.dis_places.specs.declared.memory.Memory.{Memory}
use Rattle.dis_places.specs.declared.process.Process as code_process
use Rattle.dis_places.specs.View.{view_process, view_world}
use Rattle.dis_places.specs.Words.{Halts}

-- A process that doesn't wait for a reply.
abbrev pub settled : Process → Process
settled p = with_frames p p.frame p.below p.made

-- Memory of a process that doesn't wait for a reply.
abbrev pub rested : Access places.Memory → Access places.Memory
rested a = a >>= λ m. Found (places.memory m.world (settled m.process))

-- The word at a byte of the frame of this serial, and the process with another word there.
abbrev pub frame_read : Process → (serial : ℕ) → (at : ℤ) → Access Word
frame_read p s at = words_in s (all_frames p) >>= λ words. word_at words at

abbrev pub frame_stored : Process → (serial : ℕ) → (at : ℤ) → Word → Access Process
frame_stored p s at w = words_in s (all_frames p) >>= (λ words. stored words at w) >>= λ words. Found (with_frame_words p s words)

-- The word at a byte of the block of this serial, and the world with another word there.
abbrev pub block_read : World → (serial : ℕ) → (at : ℤ) → Access Word
block_read x n at = data_at x n >>= λ words. word_at words at

abbrev pub block_stored : World → (serial : ℕ) → (at : ℤ) → Word → Access World
block_stored x n at w = data_at x n >>= (λ words. stored words at w) >>= with_data x n

-- Memory was wanting.
abbrev pub IsNoMemory : Halt → Type 0
IsNoMemory halt.NoMemory = Unit {0}
IsNoMemory _ = ⊥

-- Of all words an address alone may need more room than the one that it replaces.
abbrev pub is_address : Cell → Bool
is_address (plain v) = false
is_address (refer r) = false
is_address (in_block s v) = true
is_address (in_frame s v) = true

-- How often a word names each block.
abbrev pub named : code_word.Word → ℕ → ℕ
named w n = naming (cell_of w ∷ []) n

-- The reference in one word was given away for that in another: those that others hold outside of blocks are as before.
abbrev pub Exchanges : Memory → code_process.Process → Memory → code_process.Process → (given taken : code_word.Word) → Type 0
Exchanges m p m' p' given taken =
    (n : ℕ) → outside m'.heap n + names (view_process p) n + named given n ≡ outside m.heap n + names (view_process p') n + named taken n

-- Memory and process stand as after a change to this world and this process: what nobody names any more is gone, and what others hold
-- outside of blocks they hold.
pub record Settles (m : Memory) (p : code_process.Process) (x : World) (m' : Memory) (p' : code_process.Process) : Type 0 where
  pub held : (n : ℕ) → outside m'.heap n + names (view_process p) n ≡ outside m.heap n + names (view_process p') n
  pub heap : (view_world m').heap ≡ stays inside (outside m'.heap) x.heap
  pub outer : (view_world m').outside ≡ x.outside
  pub tables : m'.tables ≡ m.tables

-- What the definition finds is done, or there is its fault.
abbrev pub Stores : Memory → code_process.Process → Result (Unit {0}) Halt → Access places.Memory → Memory → code_process.Process → Type 0
Stores m p (Ok u) access m' p' = (x : World) × (access ≡ Found (places.memory x (settled (view_process p')))) × Settles m p x m' p'
Stores m p (Err h) access m' p' = Halts h access

-- Both heaps have the same blocks, whatever their counts.
pub record SameShapes (old new : Store) : Type 0 where
  pub shapes : shapes new ≡ shapes old
  pub each : (n : ℕ) → option_map shape_of (at new n) ≡ option_map shape_of (at old n)
