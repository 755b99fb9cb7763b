-- When words of a process hold what it names: each reference among them is accounted for, and they lead to each value that is named.
-- A reference may lead there through inner blocks: a carrier, or a block of the process's own that stands for nothing.
use Rattle.std.specs.Prelude.{ℕ, ℤ, ◌≡◌, ◌<◌, List, [], ◌∷◌, ◌++◌, Some, None}
use Rattle.heap_model.specs.Heap.{Heap, at}
use Rattle.heap_model.specs.Facts.{Free, Inner, Refers, Covers}
use Rattle.limbo_layout.specs.Adts.{Has}
use Rattle.dis_meaning.specs.Words.{Place, Word, Plain, Refer, Address}
use Rattle.dis_meaning.specs.Process.{Frame, Process}
use Rattle.dis_memory.specs.Blocks.{Block, words_in}
use Rattle.value_words.specs.Facts.{Facts}

module _ (k : Facts) (i : ℕ) (x : Heap Block) (names : ℕ → ℕ) where
  mutual
    -- What a word of process i refers to is accounted for: it is nothing, or a value that is named, or a text; or an inner block, all of
    -- whose words are accounted for, and which the process made, where it stands for nothing.
    pub data Accounted : Word → Type 0 where
      a_number : (z : ℤ) → Accounted (Plain z)
      an_address : (p : Place) (a : ℤ) → Accounted (Address p a)
      to_nothing : Accounted (Refer None)
      to_value : (b : ℕ) → Covers k (λ m. 0 < names m) b → Accounted (Refer (Some b))
      to_inner : (b : ℕ) (block : Block) → Inner k b → at x b ≡ Some block → (Free k b → k.maker b ≡ Some i)
          → AllAccounted (words_in block) → Accounted (Refer (Some b))

    -- Each of these words is accounted for.
    pub data AllAccounted : List Word → Type 0 where
      none : AllAccounted []
      more : (w : Word) (ws : List Word) → Accounted w → AllAccounted ws → AllAccounted (w ∷ ws)

module _ (k : Facts) (x : Heap Block) where
  -- These words lead to value m, by themselves or through inner blocks.
  pub data LeadTo (m : ℕ) : List Word → Type 0 where
    it : (words : List Word) (b : ℕ) → Has words (Refer (Some b)) → Refers k m b → LeadTo m words
    through : (words : List Word) (b : ℕ) (block : Block) → Has words (Refer (Some b)) → Inner k b → at x b ≡ Some block
        → LeadTo m (words_in block) → LeadTo m words

  -- Inner block b is reached from these words, by a word that refers to it or through other inner blocks.
  pub data InnerOf : List Word → (b : ℕ) → Type 0 where
    near : (words : List Word) (b : ℕ) → Has words (Refer (Some b)) → Inner k b → InnerOf words b
    far : (words : List Word) (b c : ℕ) (block : Block) → Has words (Refer (Some c)) → Inner k c → at x c ≡ Some block
        → InnerOf (words_in block) b → InnerOf words b

-- ---- all words of a process

-- A frame refers to its instance, as by a word in front of its own.
abbrev pub frame_words : Frame → List Word
frame_words f = Refer (Some f.instance) ∷ f.words

abbrev pub all_words : List Frame → List Word
all_words [] = []
all_words (f ∷ fs) = frame_words f ++ all_words fs

abbrev pub process_words : Process → List Word
process_words p = frame_words p.frame ++ (all_words p.below ++ all_words p.made)
