-- What is read and stored where an operand leads, and where it leads once there is one more block.
use Rattle.std.proofs.Common.{◌≡◌, ℕ, ℤ, pos, List, Some, ap, ◌∙◌}
use Rattle.limbo_values.specs.declared.number.Kind.{Kind}
use Rattle.dis_isa.specs.declared.inst.Operand.{Operand}
use Rattle.dis_isa.specs.declared.inst.Operand.TheVariants as operand
use Rattle.dis_meaning.specs.Words.{Word, InBlock, InFrame, Access, Found, ◌>>=◌, dead_address, or_wrong, word_at, plain, stored}
use Rattle.dis_meaning.specs.Numbers.{number_at, with_number_at}
use Rattle.dis_meaning.specs.Process.{Process}
use Rattle.dis_meaning.specs.Places.{Spot, Own, Data, Far, place_in}
use Rattle.dis_memory.specs.Blocks.{Block, World, block, with_block, reached}
use Rattle.dis_memory.specs.Places.{spot, behind, data_at, words_at, with_words_at, read, store, store_number, read_number, source_of, source_plain}
use Rattle.dis_memory.specs.Places.{source_word}
use Rattle.dis_memory.proofs.Growing.{both, block_there, more_there}
use Rattle.value_moves.specs.Spots.{Leads}
use Rattle.value_moves.proofs.Obeying.{on}

module _ (x : World) (p : Process) where
  -- ---- operands that lead somewhere are no immediates

  pub source_number : (k : Kind) (a : Operand) (s : Spot) → spot x p a ≡ Found s → source_of k x p a ≡ read_number k x p s
  source_number k operand.None s e = absurd cc
  source_number k (operand.Imm n) s e = absurd cc
  source_number k (operand.Fp n) s e = ap (λ (b : Access Spot). b >>= read_number k x p) e
  source_number k (operand.Mp n) s e = ap (λ (b : Access Spot). b >>= read_number k x p) e
  source_number k (operand.IndFp m n) s e = ap (λ (b : Access Spot). b >>= read_number k x p) e
  source_number k (operand.IndMp m n) s e = ap (λ (b : Access Spot). b >>= read_number k x p) e

  pub plain_source : (a : Operand) (s : Spot) → spot x p a ≡ Found s → source_plain x p a ≡ (read x p s >>= plain)
  plain_source operand.None s e = absurd cc
  plain_source (operand.Imm n) s e = absurd cc
  plain_source (operand.Fp n) s e = ap (λ (b : Access Spot). b >>= λ t. read x p t >>= plain) e
  plain_source (operand.Mp n) s e = ap (λ (b : Access Spot). b >>= λ t. read x p t >>= plain) e
  plain_source (operand.IndFp m n) s e = ap (λ (b : Access Spot). b >>= λ t. read x p t >>= plain) e
  plain_source (operand.IndMp m n) s e = ap (λ (b : Access Spot). b >>= λ t. read x p t >>= plain) e

  pub word_source : (a : Operand) (s : Spot) → spot x p a ≡ Found s → source_word x p a ≡ read x p s
  word_source operand.None s e = absurd cc
  word_source (operand.Imm n) s e = absurd cc
  word_source (operand.Fp n) s e = ap (λ (b : Access Spot). b >>= read x p) e
  word_source (operand.Mp n) s e = ap (λ (b : Access Spot). b >>= read x p) e
  word_source (operand.IndFp m n) s e = ap (λ (b : Access Spot). b >>= read x p) e
  word_source (operand.IndMp m n) s e = ap (λ (b : Access Spot). b >>= read x p) e

  -- ---- words that are stored in a place

  pub store_is : (place : Spot) (words others : List Word) (n : ℕ) (new : Word) → words_at x p place ≡ Found words → place_in place ≡ pos n
      → stored words (pos n) new ≡ Found others → store x p place new ≡ with_words_at x p place others
  store_is place words others n new among byte e =
      on (words_at x p place) words (λ ws. stored ws (place_in place) new >>= with_words_at x p place) among
      ∙ on (stored words (place_in place) new) others (with_words_at x p place) (ap (λ (m : ℤ). stored words m new) byte ∙ e)

  module _ (a : Operand) (words : List Word) (n : ℕ) (l : Leads x p a words n) where
    pub read_is : read x p l.place ≡ word_at words (pos n)
    read_is = on (words_at x p l.place) words (λ ws. word_at ws (place_in l.place)) l.among ∙ ap (word_at words) l.byte

    pub number_is : (k : Kind) → read_number k x p l.place ≡ number_at k words (pos n)
    number_is k = on (words_at x p l.place) words (λ ws. number_at k ws (place_in l.place)) l.among ∙ ap (number_at k words) l.byte

    pub store_number_is : (k : Kind) (others : List Word) (z : ℤ) → with_number_at k words (pos n) z ≡ Found others
        → store_number k x p l.place z ≡ with_words_at x p l.place others
    store_number_is k others z e =
        on (words_at x p l.place) words (λ ws. with_number_at k ws (place_in l.place) z >>= with_words_at x p l.place) l.among
        ∙ on (with_number_at k words (place_in l.place) z) others (with_words_at x p l.place)
        (ap (λ (m : ℤ). with_number_at k words m z) l.byte ∙ e)

-- ---- one block more

module _ (x : World) (b : Block) (p : Process) where
  data_later : (n : ℕ) (words : List Word) → data_at x n ≡ Found words → data_at (with_block x b) n ≡ Found words
  data_later n words e =
      let h = both (block x n) reached words e in
      on (block (with_block x b) n) h.first reached
      (ap (or_wrong dead_address) (more_there x.heap (Some b) n h.first (block_there x n h.first h.is)))
      ∙ h.then

  pub words_later : (s : Spot) (words : List Word) → words_at x p s ≡ Found words → words_at (with_block x b) p s ≡ Found words
  words_later (Own n) words e = e
  words_later (Data n) words e = data_later p.frame.instance words e
  words_later (Far (InFrame s) n) words e = e
  words_later (Far (InBlock m) n) words e = data_later m words e

  read_later : (s : Spot) (w : Word) → read x p s ≡ Found w → read (with_block x b) p s ≡ Found w
  read_later s w e =
      let h = both (words_at x p s) (λ ws. word_at ws (place_in s)) w e in
      on (words_at (with_block x b) p s) h.first (λ ws. word_at ws (place_in s)) (words_later s h.first h.is) ∙ h.then

  pub spot_later : (o : Operand) (s : Spot) → spot x p o ≡ Found s → spot (with_block x b) p o ≡ Found s
  spot_later operand.None s e = e
  spot_later (operand.Imm n) s e = e
  spot_later (operand.Fp n) s e = e
  spot_later (operand.Mp n) s e = e
  spot_later (operand.IndFp inner outer) s e = e
  spot_later (operand.IndMp inner outer) s e =
      let h = both (read x p (Data inner)) (λ w. behind w outer) s e in
      on (read (with_block x b) p (Data inner)) h.first (λ w. behind w outer) (read_later (Data inner) h.first h.is) ∙ h.then
