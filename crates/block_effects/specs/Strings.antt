-- What instructions on strings come to.
use Rattle.std.specs.Prelude.{ℕ, ℤ, pos, suc, ◌≡◌, List, length, Option, Some, Ok, Err, encode_utf8_all, if◌then◌else◌}
use Rattle.dis_isa.specs.declared.inst.Middle.{Middle}
use Rattle.dis_isa.specs.declared.inst.Middle.TheVariants as middle
use Rattle.dis_isa.specs.declared.inst.Operand.{Operand}
use Rattle.dis_isa.specs.declared.op.Op.{Op}
use Rattle.dis_isa.specs.declared.op.Op.TheVariants as op
use Rattle.dis_file.specs.declared.object.Object.{Object}
use Rattle.limbo_values.specs.declared.number.Kind.TheVariants.{Int, Big}
use Rattle.limbo_values.specs.declared.operator.Comparison.{Comparison}
use Rattle.limbo_values.specs.declared.raised.Raised.{Raised}
use Rattle.limbo_values.specs.Operators.{text_of}
use Rattle.limbo_values.specs.Texts.{index_in, character_in, slice_in, joined, text_compared}
use Rattle.limbo_values.specs.Conversions.{number_text, number_read}
use Rattle.system_model.specs.Verbs.{character}
use Rattle.limbo_bytes.specs.Bytes.{characters}
use Rattle.dis_meaning.specs.Words.{Word, Found, Raises}
use Rattle.dis_meaning.specs.Numbers.{with_number_at}
use Rattle.dis_meaning.specs.Process.{Process}
use Rattle.dis_memory.specs.Blocks.{Block, Text, World}
use Rattle.dis_memory.specs.Places.{memory, source_of, given_of}
use Rattle.dis_memory.specs.Operands.{target}
use Rattle.dis_memory.specs.Kinds.{Elements, text_at}
use Rattle.dis_memory.specs.Strings.{not_longer, with_character, bytes_in, array_of, text_row}
use Rattle.dis_memory.specs.Process.{jumps, next}
use Rattle.value_moves.specs.Operands.{inst}
use Rattle.block_effects.specs.Stored.{Comes, After, NumberThere, ReferenceThere, AfterBlock, ReadsText, GivesText, ReadsElements}

module _ (limit : ℕ) (o : Object) (x : World) (p : Process) where
  -- The text of the middle, and behind it that of the source. Without a middle the destination's is meant.
  pub record TextsJoin : Type 0 where
    pub both : (a b : Operand) (m : Middle) (s t both : List ℕ) (d : ReferenceThere x p b) → ReadsText x p a s → GivesText x p m t →
        joined t s ≡ Ok both → Comes limit o x p (inst op.Addc a m b) (AfterBlock x p d (Text both))
    pub both_raise : (a b : Operand) (m : Middle) (s t : List ℕ) (raised : Raised) → ReferenceThere x p b → ReadsText x p a s →
        GivesText x p m t → joined t s ≡ Err raised → Comes limit o x p (inst op.Addc a m b) (Raises (text_of raised))
    pub own : (a b : Operand) (s t both : List ℕ) (d : ReferenceThere x p b) → ReadsText x p a s → text_at x d.old ≡ Found t →
        joined t s ≡ Ok both → Comes limit o x p (inst op.Addc a middle.None b) (AfterBlock x p d (Text both))
    pub own_raises : (a b : Operand) (s t : List ℕ) (raised : Raised) (d : ReferenceThere x p b) → ReadsText x p a s →
        text_at x d.old ≡ Found t → joined t s ≡ Err raised →
        Comes limit o x p (inst op.Addc a middle.None b) (Raises (text_of raised))

  -- How long a text is, its characters, and part of it.
  pub record TextsAreRead : Type 0 where
    pub long : (a b : Operand) (m : Middle) (s : List ℕ) (others : List Word) (d : NumberThere x p Int b) → ReadsText x p a s →
        with_number_at Int d.words (pos d.byte) (pos (length s)) ≡ Found others →
        Comes limit o x p (inst op.Lenc a m b) (After x p d.leads.place others)
    pub character : (a b : Operand) (m : Middle) (s : List ℕ) (at code : ℤ) (others : List Word) (d : NumberThere x p Int b) →
        ReadsText x p a s → given_of Int x p m ≡ Found at → character_in s at ≡ Ok code →
        with_number_at Int d.words (pos d.byte) code ≡ Found others →
        Comes limit o x p (inst op.Indc a m b) (After x p d.leads.place others)
    pub no_character : (a b : Operand) (m : Middle) (s : List ℕ) (at : ℤ) (raised : Raised) → NumberThere x p Int b →
        ReadsText x p a s → given_of Int x p m ≡ Found at → character_in s at ≡ Err raised →
        Comes limit o x p (inst op.Indc a m b) (Raises (text_of raised))
    pub slice : (a b : Operand) (m : Middle) (from to : ℤ) (s part : List ℕ) (d : ReferenceThere x p b) →
        source_of Int x p a ≡ Found from → given_of Int x p m ≡ Found to → text_at x d.old ≡ Found s → slice_in s from to ≡ Ok part →
        Comes limit o x p (inst op.Slicec a m b) (AfterBlock x p d (Text part))
    pub no_slice : (a b : Operand) (m : Middle) (from to : ℤ) (s : List ℕ) (raised : Raised) (d : ReferenceThere x p b) →
        source_of Int x p a ≡ Found from → given_of Int x p m ≡ Found to → text_at x d.old ≡ Found s → slice_in s from to ≡ Err raised →
        Comes limit o x p (inst op.Slicec a m b) (Raises (text_of raised))

  -- The character of a code comes to an index.
  pub record CharactersInsert : Type 0 where
    pub inserted : (a b : Operand) (m : Middle) (code at : ℤ) (k : ℕ) (s t : List ℕ) (d : ReferenceThere x p b) →
        source_of Int x p a ≡ Found code → given_of Int x p m ≡ Found at → text_at x d.old ≡ Found s →
        index_in (suc (length s)) at ≡ Ok k → not_longer (with_character s k (character code)) ≡ Ok t →
        Comes limit o x p (inst op.Insc a m b) (AfterBlock x p d (Text t))
    pub no_index : (a b : Operand) (m : Middle) (code at : ℤ) (s : List ℕ) (raised : Raised) (d : ReferenceThere x p b) →
        source_of Int x p a ≡ Found code → given_of Int x p m ≡ Found at → text_at x d.old ≡ Found s →
        index_in (suc (length s)) at ≡ Err raised → Comes limit o x p (inst op.Insc a m b) (Raises (text_of raised))
    pub too_long : (a b : Operand) (m : Middle) (code at : ℤ) (k : ℕ) (s : List ℕ) (raised : Raised) (d : ReferenceThere x p b) →
        source_of Int x p a ≡ Found code → given_of Int x p m ≡ Found at → text_at x d.old ≡ Found s →
        index_in (suc (length s)) at ≡ Ok k → not_longer (with_character s k (character code)) ≡ Err raised →
        Comes limit o x p (inst op.Insc a m b) (Raises (text_of raised))

  -- The process goes on there where the text of the source stands so to that of the middle.
  pub record TextsCompare : Type 0 where
    pub compares : (f : Op) (c : Comparison) (a b : Operand) (m : Middle) (s t : List ℕ) (pc : ℕ) → text_row f ≡ Some c →
        ReadsText x p a s → GivesText x p m t → target o b ≡ Found pc →
        Comes limit o x p (inst f a m b) (Found (if text_compared c s t then jumps x p pc else next (memory x p)))

  -- Numbers and bytes as texts, and back.
  pub record TextsConvert : Type 0 where
    pub of_int : (a b : Operand) (m : Middle) (z : ℤ) (d : ReferenceThere x p b) → source_of Int x p a ≡ Found z →
        Comes limit o x p (inst op.Cvtwc a m b) (AfterBlock x p d (Text (number_text z)))
    pub of_big : (a b : Operand) (m : Middle) (z : ℤ) (d : ReferenceThere x p b) → source_of Big x p a ≡ Found z →
        Comes limit o x p (inst op.Cvtlc a m b) (AfterBlock x p d (Text (number_text z)))
    pub as_int : (a b : Operand) (m : Middle) (s : List ℕ) (others : List Word) (d : NumberThere x p Int b) → ReadsText x p a s →
        with_number_at Int d.words (pos d.byte) (number_read Int s) ≡ Found others →
        Comes limit o x p (inst op.Cvtcw a m b) (After x p d.leads.place others)
    pub as_big : (a b : Operand) (m : Middle) (s : List ℕ) (others : List Word) (d : NumberThere x p Big b) → ReadsText x p a s →
        with_number_at Big d.words (pos d.byte) (number_read Big s) ≡ Found others →
        Comes limit o x p (inst op.Cvtcl a m b) (After x p d.leads.place others)
    pub as_bytes : (a b : Operand) (m : Middle) (s : List ℕ) (new : Block) (d : ReferenceThere x p b) → ReadsText x p a s →
        array_of (encode_utf8_all s) ≡ Found new → Comes limit o x p (inst op.Cvtca a m b) (AfterBlock x p d new)
    pub as_bytes_raises : (a b : Operand) (m : Middle) (s text : List ℕ) → ReferenceThere x p b → ReadsText x p a s →
        array_of (encode_utf8_all s) ≡ Raises text → Comes limit o x p (inst op.Cvtca a m b) (Raises text)
    pub of_bytes : (a b : Operand) (m : Middle) (es : Option Elements) (bytes s : List ℕ) (d : ReferenceThere x p b) →
        ReadsElements x p a es → bytes_in es ≡ Found bytes → not_longer (characters 0 bytes) ≡ Ok s →
        Comes limit o x p (inst op.Cvtac a m b) (AfterBlock x p d (Text s))
    pub of_bytes_raises : (a b : Operand) (m : Middle) (es : Option Elements) (bytes : List ℕ) (raised : Raised) →
        ReferenceThere x p b → ReadsElements x p a es → bytes_in es ≡ Found bytes → not_longer (characters 0 bytes) ≡ Err raised →
        Comes limit o x p (inst op.Cvtac a m b) (Raises (text_of raised))

  pub record StringsCome : Type 0 where
    pub join : TextsJoin
    pub read : TextsAreRead
    pub insert : CharactersInsert
    pub compare : TextsCompare
    pub convert : TextsConvert

abbrev pub StringsComeAll : Type 0
StringsComeAll = (limit : ℕ) (o : Object) (x : World) (p : Process) → StringsCome limit o x p
