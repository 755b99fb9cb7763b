-- To which words an operand leads, and what memory is once words are stored there.
use Rattle.std.specs.Prelude.{ℕ, pos, ◌+◌, ◌≡◌, List, Some}
use Rattle.heap_model.specs.Heap.{at}
use Rattle.dis_file.specs.declared.types.TypeDesc.{TypeDesc}
use Rattle.dis_isa.specs.declared.inst.Operand.{Operand}
use Rattle.dis_isa.specs.declared.inst.Operand.TheVariants as operand
use Rattle.dis_meaning.specs.Words.{Word, Refer, Address, InBlock, InFrame, Found, word_at}
use Rattle.dis_meaning.specs.Process.{Process, with_words, with_frames}
use Rattle.dis_meaning.specs.Places.{Spot, words_in, all_frames, place_in, with_frame_words}
use Rattle.dis_memory.specs.Blocks.{World, Record, Array, Instance, with_changed}
use Rattle.dis_memory.specs.Places.{Memory, memory, spot, words_at, with_words_at}

-- An operand leads to a byte among these words.
pub record Leads (x : World) (p : Process) (o : Operand) (words : List Word) (byte_number : ℕ) : Type 0 where
  pub place : Spot
  pub found : spot x p o ≡ Found place
  pub among : words_at x p place ≡ Found words
  pub byte : place_in place ≡ pos byte_number

-- It does, and where other words are stored there, memory is this.
abbrev pub LeadsAndStores : (x : World) (p : Process) (o : Operand) (words : List Word) (byte_number : ℕ) → (List Word → Memory) → Type 0
LeadsAndStores x p o words n after = (l : Leads x p o words n) × ((new : List Word) → with_words_at x p l.place new ≡ Found (after new))

pub record SpotsLead : Type 0 where
  -- to a byte of the running frame
  pub own : (x : World) (p : Process) (n : ℕ) →
      LeadsAndStores x p (operand.Fp (pos n)) p.frame.words n
      (λ new. memory x (with_frames p (with_words p.frame new) p.below p.made))
  -- of the data of its module
  pub of_module : (x : World) (p : Process) (object : ℕ) (words : List Word) (n : ℕ) →
      at x.heap p.frame.instance ≡ Some (Instance object words) →
      LeadsAndStores x p (operand.Mp (pos n)) words n (λ new. memory (with_changed x p.frame.instance (Instance object new)) p)
  -- of a record to which a word of the frame refers
  pub inner : (x : World) (p : Process) (r b : ℕ) (words : List Word) (n : ℕ) →
      word_at p.frame.words (pos r) ≡ Found (Refer (Some b)) → at x.heap b ≡ Some (Record words) →
      LeadsAndStores x p (operand.IndFp (pos r) (pos n)) words n (λ new. memory (with_changed x b (Record new)) p)
  -- of an array, an address in which a word of the frame has
  pub element : (x : World) (p : Process) (r b a long : ℕ) (type : TypeDesc) (words : List Word) (n : ℕ) →
      word_at p.frame.words (pos r) ≡ Found (Address (InBlock b) (pos a)) → at x.heap b ≡ Some (Array type long words) →
      LeadsAndStores x p (operand.IndFp (pos r) (pos n)) words (a + n) (λ new. memory (with_changed x b (Array type long new)) p)
  -- of a frame of the process, an address in which a word of the running one has
  pub frame : (x : World) (p : Process) (r s a : ℕ) (words : List Word) (n : ℕ) →
      word_at p.frame.words (pos r) ≡ Found (Address (InFrame s) (pos a)) → words_in s (all_frames p) ≡ Found words →
      LeadsAndStores x p (operand.IndFp (pos r) (pos n)) words (a + n) (λ new. memory x (with_frame_words p s new))
