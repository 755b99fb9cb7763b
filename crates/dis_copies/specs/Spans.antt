-- Words that go over others, one behind the other.
use Rattle.std.specs.Prelude.{◌≡◌, ℕ, suc, ◌+◌, ◌≤◌, Bool, true, false, not, ◌&&◌, List, [], ◌∷◌, map, slice_get, slice_set, if◌then◌else◌}
use Rattle.ref_heap.specs.declared.word.Word as code_word
use Rattle.ref_heap.specs.Words.{cell_of, naming}
use Rattle.ref_heap.specs.Store.{Store, IsLive, outside}
use Rattle.dis_meaning.specs.Words.{Place, Word, Plain, Refer, Address, Access, Found, Wrong, ◌>>=◌, type_check, or_wrong, fits}
use Rattle.dis_meaning.specs.Places.{Spot, words_in, all_frames, with_frame_words}
use Rattle.dis_meaning.specs.Process.{Process}
use Rattle.dis_memory.specs.Blocks.{World}
use Rattle.dis_memory.specs.Copies.{put}
use Rattle.dis_memory.specs.Naming.{names}
use Rattle.dis_memory.specs.Places.{Memory, data_at, with_data, words_of, words_at, with_words_at}
use Rattle.dis_places.specs.declared.memory.Memory as code_memory
use Rattle.dis_places.specs.declared.process.Process as code_process
use Rattle.dis_places.specs.View.{view_process}

-- How often words name each block.
abbrev pub all_named : List code_word.Word → ℕ → ℕ
all_named ws n = naming (map cell_of ws) n

-- The blocks that words refer to are there.
abbrev pub AreLive : Store → List code_word.Word → Type 0
AreLive h ws = (n : ℕ) → 1 ≤ all_named ws n → IsLive h n

-- Which words are references, and that none of them is.
abbrev pub is_refer : Word → Bool
is_refer (Refer r) = true
is_refer (Plain n) = false
is_refer (Address place at) = false

abbrev pub kinds : List Word → List Bool
kinds ws = map is_refer ws

abbrev pub none_refers : List Word → Bool
none_refers [] = true
none_refers (w ∷ ws) = not (is_refer w) && none_refers ws

-- These words over those from one on, of whatever kind they are.
abbrev pub over : List Word → (from : ℕ) → List Word → List Word
over words from [] = words
over words from (v ∷ vs) = over (slice_set words from v) (suc from) vs

-- Each of these words meets one of its kind, from one on.
abbrev pub meets : List Word → (from : ℕ) → List Word → Access (Unit {0})
meets words from [] = Found tt
meets words from (v ∷ vs) =
    or_wrong type_check (slice_get words from) >>= λ old. if fits old v then meets words (suc from) vs else Wrong type_check

-- So do they in a place.
abbrev pub meets_at : World → Process → Spot → (from : ℕ) → List Word → Access (Unit {0})
meets_at x p s from vs = words_at x p s >>= λ words. meets words from vs

-- They are put over those of a place, from one on.
abbrev pub put_at : World → Process → Spot → (from : ℕ) → List Word → Access Memory
put_at x p s from vs = words_at x p s >>= λ words. put words from vs >>= with_words_at x p s

-- ---- in the frame of a serial, in a block, in a place

module _ (from : ℕ) (vs : List Word) where
  abbrev pub frame_meets : Process → (serial : ℕ) → Access (Unit {0})
  frame_meets p s = words_in s (all_frames p) >>= λ words. meets words from vs

  abbrev pub frame_over : Process → (serial : ℕ) → Access Process
  frame_over p s = words_in s (all_frames p) >>= λ words. Found (with_frame_words p s (over words from vs))

  abbrev pub data_meets : World → (serial : ℕ) → Access (Unit {0})
  data_meets x n = data_at x n >>= λ words. meets words from vs

  abbrev pub data_over : World → (serial : ℕ) → Access World
  data_over x n = data_at x n >>= λ words. with_data x n (over words from vs)

  abbrev pub place_meets : World → Process → Place → Access (Unit {0})
  place_meets x p place = words_of x p place >>= λ words. meets words from vs

-- They go over those of a place.
abbrev pub over_at : World → Process → Spot → (from : ℕ) → List Word → Access Memory
over_at x p s from vs = words_at x p s >>= λ words. with_words_at x p s (over words from vs)

-- The references in some words were given away for those in others: those that others hold outside of blocks are as before.
abbrev pub ExchangesAll : code_memory.Memory → code_process.Process → code_memory.Memory → code_process.Process →
    (given taken : List code_word.Word) → Type 0
ExchangesAll m p m' p' given taken =
    (n : ℕ) → outside m'.heap n + names (view_process p) n + all_named given n
    ≡ outside m.heap n + names (view_process p') n + all_named taken n
