-- What each instruction that moves a value does, where its operands lead to words.
use Rattle.std.proofs.Common.{◌≡◌, ℕ, ℤ, pos, ◌/◌, ◌%◌, List, Option, Some, ap, ◌∙◌, if◌then◌else◌}
use Rattle.std.specs.Prelude.{◌==◌, slice_get}
use Rattle.dis_isa.specs.declared.inst.Inst.{Inst}
use Rattle.dis_isa.specs.declared.inst.Middle.{Middle}
use Rattle.dis_isa.specs.declared.inst.Middle.TheVariants as middle
use Rattle.dis_isa.specs.declared.inst.Operand.{Operand}
use Rattle.dis_isa.specs.declared.inst.Operand.TheVariants as operand
use Rattle.dis_isa.specs.declared.op.Op.TheVariants as op
use Rattle.dis_file.specs.declared.object.Object.{Object}
use Rattle.dis_file.specs.declared.types.TypeDesc.{TypeDesc}
use Rattle.limbo_values.specs.declared.number.Kind.{Kind}
use Rattle.limbo_values.specs.declared.number.Kind.TheVariants.{Int}
use Rattle.dis_meaning.specs.Words.{Word, Refer, Access, Found, Wrong, ◌>>=◌, type_check, or_wrong, at_least_zero}
use Rattle.dis_meaning.specs.Words.{word_number, word_at, plain}
use Rattle.dis_meaning.specs.Words.{reference, stored}
use Rattle.dis_meaning.specs.Numbers.{number_at, with_number_at}
use Rattle.dis_meaning.specs.Process.{Process}
use Rattle.dis_meaning.specs.Places.{Spot, place_in}
use Rattle.dis_memory.specs.Blocks.{World}
use Rattle.dis_memory.specs.Places.{Memory, spot, words_at, with_words_at, read, store, store_number, read_number, source_of, source_plain}
use Rattle.dis_memory.specs.Places.{source_word, source_reference, reference_at, given_of}
use Rattle.dis_memory.specs.Operands.{middle_type}
use Rattle.dis_memory.specs.Copies.{moved, put, typed_words}
use Rattle.dis_memory.specs.Process.{Does, next}
use Rattle.dis_memory.specs.Results.{gives_number, gives_number_at, gives_plain_at, gives_reference, gives_reference_at}
use Rattle.dis_memory.specs.Data as data_ops
use Rattle.dis_memory.specs.Numbers as numbers
use Rattle.value_moves.specs.Operands.{inst}
use Rattle.value_moves.specs.Spots.{Leads}

pub on : {S T : Type 0} (a : Access S) (s : S) (f : S → Access T) → a ≡ Found s → (a >>= f) ≡ f s
on a s f e = ap (λ (b : Access _). b >>= f) e

pub even_word : (n : ℕ) → n % 4 ≡ 0 → word_number (pos n) ≡ Found (n / 4)
even_word n e = ap (λ m. if m == 0 then Found (n / 4) else Wrong type_check) e

module _ (x : World) (p : Process) where
  -- ---- operands that lead somewhere are no immediates

  source_number : (k : Kind) (a : Operand) (s : Spot) → spot x p a ≡ Found s → source_of k x p a ≡ read_number k x p s
  source_number k operand.None s e = absurd cc
  source_number k (operand.Imm n) s e = absurd cc
  source_number k (operand.Fp n) s e = ap (λ (b : Access Spot). b >>= read_number k x p) e
  source_number k (operand.Mp n) s e = ap (λ (b : Access Spot). b >>= read_number k x p) e
  source_number k (operand.IndFp m n) s e = ap (λ (b : Access Spot). b >>= read_number k x p) e
  source_number k (operand.IndMp m n) s e = ap (λ (b : Access Spot). b >>= read_number k x p) e

  plain_source : (a : Operand) (s : Spot) → spot x p a ≡ Found s → source_plain x p a ≡ (read x p s >>= plain)
  plain_source operand.None s e = absurd cc
  plain_source (operand.Imm n) s e = absurd cc
  plain_source (operand.Fp n) s e = ap (λ (b : Access Spot). b >>= λ t. read x p t >>= plain) e
  plain_source (operand.Mp n) s e = ap (λ (b : Access Spot). b >>= λ t. read x p t >>= plain) e
  plain_source (operand.IndFp m n) s e = ap (λ (b : Access Spot). b >>= λ t. read x p t >>= plain) e
  plain_source (operand.IndMp m n) s e = ap (λ (b : Access Spot). b >>= λ t. read x p t >>= plain) e

  word_source : (a : Operand) (s : Spot) → spot x p a ≡ Found s → source_word x p a ≡ read x p s
  word_source operand.None s e = absurd cc
  word_source (operand.Imm n) s e = absurd cc
  word_source (operand.Fp n) s e = ap (λ (b : Access Spot). b >>= read x p) e
  word_source (operand.Mp n) s e = ap (λ (b : Access Spot). b >>= read x p) e
  word_source (operand.IndFp m n) s e = ap (λ (b : Access Spot). b >>= read x p) e
  word_source (operand.IndMp m n) s e = ap (λ (b : Access Spot). b >>= read x p) e

  -- ---- what is read and stored where one leads

  read_is : (a : Operand) (words : List Word) (n : ℕ) (l : Leads x p a words n) → read x p l.place ≡ word_at words (pos n)
  read_is a words n l =
      on (words_at x p l.place) words (λ ws. word_at ws (place_in l.place)) l.among ∙ ap (word_at words) l.byte

  number_is : (k : Kind) (a : Operand) (words : List Word) (n : ℕ) (l : Leads x p a words n)
      → read_number k x p l.place ≡ number_at k words (pos n)
  number_is k a words n l =
      on (words_at x p l.place) words (λ ws. number_at k ws (place_in l.place)) l.among ∙ ap (number_at k words) l.byte

  store_is : (a : Operand) (words others : List Word) (n : ℕ) (new : Word) (l : Leads x p a words n)
      → stored words (pos n) new ≡ Found others → store x p l.place new ≡ with_words_at x p l.place others
  store_is a words others n new l e =
      on (words_at x p l.place) words (λ ws. stored ws (place_in l.place) new >>= with_words_at x p l.place) l.among
      ∙ on (stored words (place_in l.place) new) others (with_words_at x p l.place) (ap (λ (m : ℤ). stored words m new) l.byte ∙ e)

  store_number_is : (k : Kind) (a : Operand) (words others : List Word) (n : ℕ) (z : ℤ) (l : Leads x p a words n)
      → with_number_at k words (pos n) z ≡ Found others → store_number k x p l.place z ≡ with_words_at x p l.place others
  store_number_is k a words others n z l e =
      on (words_at x p l.place) words (λ ws. with_number_at k ws (place_in l.place) z >>= with_words_at x p l.place) l.among
      ∙ on (with_number_at k words (place_in l.place) z) others (with_words_at x p l.place)
      (ap (λ (m : ℤ). with_number_at k words m z) l.byte ∙ e)

  -- ---- the instructions

  module _ (o : Object) (a b : Operand) (source target others : List Word) (from to : ℕ) (s : Leads x p a source from)
      (d : Leads x p b target to) where
    abbrev pub Done : Access Does
    Done = with_words_at x p d.place others >>= λ m. Found (next m)

    pub number_moves : (k : Kind) (m : Middle) (i : Inst) (z old : ℤ) → i.src ≡ a → i.dst ≡ b → number_at k source (pos from) ≡ Found z
        → number_at k target (pos to) ≡ Found old → with_number_at k target (pos to) z ≡ Found others → numbers.moves o x p i k ≡ Done
    number_moves k m i z old is_src is_dst e f g =
        on (source_of k x p i.src) z (λ y. gives_number x p k i.dst (Found y))
        (ap (source_of k x p) is_src ∙ source_number k a s.place s.found ∙ number_is k a source from s ∙ e)
        ∙ ap (λ (c : Operand). gives_number x p k c (Found z)) is_dst
        ∙ on (spot x p b) d.place (λ t. gives_number_at x p k t (Found z)) d.found
        ∙ on (read_number k x p d.place) old (λ y. store_number k x p d.place z >>= λ m. Found (next m)) (number_is k b target to d ∙ f)
        ∙ ap (λ (c : Access Memory). c >>= λ m. Found (next m)) (store_number_is k b target others to z d g)

    pub word_moves : (m : Middle) (w old : Word) → word_at source (pos from) ≡ Found w → plain w ≡ Found w
        → word_at target (pos to) ≡ Found old → plain old ≡ Found old → stored target (pos to) w ≡ Found others
        → data_ops.movw o x p (inst op.Movw a m b) ≡ Done
    word_moves m w old e is_plain f was_plain g =
        on (source_plain x p a) w (λ v. spot x p b >>= λ t. gives_plain_at x p t (Found v))
        (plain_source a s.place s.found ∙ ap (λ (c : Access Word). c >>= plain) (read_is a source from s ∙ e) ∙ is_plain)
        ∙ on (spot x p b) d.place (λ t. gives_plain_at x p t (Found w)) d.found
        ∙ on (read x p d.place >>= plain) old (λ y. store x p d.place w >>= λ m. Found (next m))
        (ap (λ (c : Access Word). c >>= plain) (read_is b target to d ∙ f) ∙ was_plain)
        ∙ ap (λ (c : Access Memory). c >>= λ m. Found (next m)) (store_is b target others to w d g)

    pub reference_moves : (m : Middle) (r old : Option ℕ) → word_at source (pos from) ≡ Found (Refer r)
        → word_at target (pos to) ≡ Found (Refer old) → stored target (pos to) (Refer r) ≡ Found others
        → data_ops.movp o x p (inst op.Movp a m b) ≡ Done
    reference_moves m r old e f g =
        on (source_reference x p a) r (λ t. gives_reference x p b (Found t))
        (ap (λ (c : Access Word). c >>= reference) (word_source a s.place s.found ∙ read_is a source from s ∙ e))
        ∙ on (spot x p b) d.place (λ t. gives_reference_at x p t (Found r)) d.found
        ∙ on (reference_at x p d.place) old (λ y. store x p d.place (Refer r) >>= λ m. Found (next m))
        (ap (λ (c : Access Word). c >>= reference) (read_is b target to d ∙ f))
        ∙ ap (λ (c : Access Memory). c >>= λ m. Found (next m)) (store_is b target others to (Refer r) d g)

    pub bytes_move : (m : Middle) (n : ℕ) → given_of Int x p m ≡ Found (pos n) → moved source from target to n ≡ Found others
        → data_ops.movm o x p (inst op.Movm a m b) ≡ Done
    bytes_move m n e f =
        on (spot x p a) s.place _ s.found
        ∙ on (words_at x p s.place) source _ s.among
        ∙ on (at_least_zero (place_in s.place)) from _ (ap at_least_zero s.byte)
        ∙ on (given_of Int x p m >>= at_least_zero) n _ (ap (λ (c : Access ℤ). c >>= at_least_zero) e)
        ∙ on (spot x p b) d.place _ d.found
        ∙ on (words_at x p d.place) target _ d.among
        ∙ on (at_least_zero (place_in d.place)) to _ (ap at_least_zero d.byte)
        ∙ ap (λ (c : Access (List Word)). c >>= with_words_at x p d.place >>= λ m. Found (next m)) f

    pub typed_moves : (n : ℕ) (desc : TypeDesc) (vs : List Word) → from % 4 ≡ 0 → to % 4 ≡ 0 → slice_get o.types n ≡ Some desc
        → typed_words desc source (from / 4) ≡ Found vs → put target (to / 4) vs ≡ Found others
        → data_ops.movmp o x p (inst op.Movmp a (middle.Imm (pos n)) b) ≡ Done
    typed_moves n desc vs e f g h i =
        on (spot x p a) s.place _ s.found
        ∙ on (words_at x p s.place) source _ s.among
        ∙ on (word_number (place_in s.place)) (from / 4) _ (ap word_number s.byte ∙ even_word from e)
        ∙ on (middle_type o (middle.Imm (pos n))) desc _ (ap (or_wrong type_check) g)
        ∙ on (typed_words desc source (from / 4)) vs _ h
        ∙ on (spot x p b) d.place _ d.found
        ∙ on (words_at x p d.place) target _ d.among
        ∙ on (word_number (place_in d.place)) (to / 4) _ (ap word_number d.byte ∙ even_word to f)
        ∙ ap (λ (c : Access (List Word)). c >>= with_words_at x p d.place >>= λ m. Found (next m)) i
