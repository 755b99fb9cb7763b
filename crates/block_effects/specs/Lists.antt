-- What instructions on lists come to, and those that make channels.
use Rattle.std.specs.Prelude.{ℕ, ℤ, pos, ◌≡◌, ◌/◌, ◌%◌, List, [], ◌∷◌, Option, Some, None, unsigned_abs}
use Rattle.dis_isa.specs.declared.inst.Middle.{Middle}
use Rattle.dis_isa.specs.declared.inst.Middle.TheVariants as middle
use Rattle.dis_isa.specs.declared.inst.Operand.{Operand}
use Rattle.dis_isa.specs.declared.op.Op.{Op}
use Rattle.dis_isa.specs.declared.op.Op.TheVariants as op
use Rattle.dis_file.specs.declared.object.Object.{Object}
use Rattle.dis_file.specs.declared.types.TypeDesc.{TypeDesc}
use Rattle.limbo_values.specs.declared.number.Kind.{Kind}
use Rattle.limbo_values.specs.declared.number.Kind.TheVariants.{Byte, Int, Big}
use Rattle.limbo_values.specs.Numbers.{wrapped}
use Rattle.dis_meaning.specs.Words.{Word, Plain, Refer, Found, Raises, blank, word_at}
use Rattle.dis_meaning.specs.Numbers.{number_at, with_number_at, with_byte, high_part, low_part}
use Rattle.dis_meaning.specs.Process.{Process}
use Rattle.dis_memory.specs.Blocks.{Cell, Channel, World}
use Rattle.dis_memory.specs.Raising.{nil_text}
use Rattle.dis_memory.specs.Places.{source_of, given_of, source_reference}
use Rattle.dis_memory.specs.Operands.{immediate, source_type, middle_type}
use Rattle.dis_memory.specs.Kinds.{Linked, list_length}
use Rattle.dis_memory.specs.Copies.{put, moved, typed_words}
use Rattle.dis_memory.specs.Lists.{plain_type}
use Rattle.dis_memory.specs.Step.{type_of_size}
use Rattle.value_moves.specs.Operands.{inst}
use Rattle.value_moves.specs.Spots.{Leads}
use Rattle.block_effects.specs.Stored.{Comes, After, NumberThere, ReferenceThere, AfterReference, AfterBlock, ReadsCell}

-- The words of a cell with a number of a kind.
abbrev pub number_words : Kind → ℤ → List Word
number_words Byte z = Plain (with_byte (pos 0) 0 (unsigned_abs z)) ∷ []
number_words Int z = Plain z ∷ []
number_words Big z = Plain (high_part z) ∷ Plain (low_part z) ∷ []

-- The instructions for a number of a kind in front of a list, for the one in its first cell, and for a channel of such.
abbrev pub cons_of : Kind → Op
cons_of Byte = op.Consb
cons_of Int = op.Consw
cons_of Big = op.Consl

abbrev pub head_of : Kind → Op
head_of Byte = op.Headb
head_of Int = op.Headw
head_of Big = op.Headl

module _ (limit : ℕ) (o : Object) (x : World) (p : Process) where
  -- A new cell in front of the list to which the destination refers.
  pub record CellsAreMade : Type 0 where
    pub number : (kind : Kind) (a b : Operand) (m : Middle) (z : ℤ) (d : ReferenceThere x p b) → source_of kind x p a ≡ Found z →
        Comes limit o x p (inst (cons_of kind) a m b) (AfterBlock x p d (Cell (number_words kind z) d.old))
    pub reference : (a b : Operand) (m : Middle) (r : Option ℕ) (d : ReferenceThere x p b) → source_reference x p a ≡ Found r →
        Comes limit o x p (inst op.Consp a m b) (AfterBlock x p d (Cell (Refer r ∷ []) d.old))
    pub bytes : (a b : Operand) (m : Middle) (source element : List Word) (from n : ℕ) (d : ReferenceThere x p b) →
        Leads x p a source from → given_of Int x p m ≡ Found (pos n) →
        moved source from (blank (plain_type n)) 0 n ≡ Found element →
        Comes limit o x p (inst op.Consm a m b) (AfterBlock x p d (Cell element d.old))
    pub typed : (a b : Operand) (m : Middle) (source element : List Word) (from : ℕ) (desc : TypeDesc) (d : ReferenceThere x p b) →
        Leads x p a source from → from % 4 ≡ 0 → middle_type o m ≡ Found desc → typed_words desc source (from / 4) ≡ Found element →
        Comes limit o x p (inst op.Consmp a m b) (AfterBlock x p d (Cell element d.old))

  -- The element of the first cell. Nil has none.
  pub record HeadsAreRead : Type 0 where
    pub number : (kind : Kind) (a b : Operand) (m : Middle) (c : Linked) (z : ℤ) (others : List Word) (d : NumberThere x p kind b) →
        ReadsCell x p a (Some c) → number_at kind c.element (pos 0) ≡ Found z →
        with_number_at kind d.words (pos d.byte) z ≡ Found others →
        Comes limit o x p (inst (head_of kind) a m b) (After x p d.leads.place others)
    pub no_number : (kind : Kind) (a b : Operand) (m : Middle) → NumberThere x p kind b → ReadsCell x p a None →
        Comes limit o x p (inst (head_of kind) a m b) (Raises nil_text)
    pub reference : (a b : Operand) (m : Middle) (c : Linked) (r : Option ℕ) (d : ReferenceThere x p b) → ReadsCell x p a (Some c) →
        word_at c.element (pos 0) ≡ Found (Refer r) → Comes limit o x p (inst op.Headp a m b) (AfterReference x p d r)
    pub no_reference : (a b : Operand) (m : Middle) → ReferenceThere x p b → ReadsCell x p a None →
        Comes limit o x p (inst op.Headp a m b) (Raises nil_text)
    pub bytes : (a b : Operand) (m : Middle) (c : Linked) (target others : List Word) (to n : ℕ) (d : Leads x p b target to) →
        ReadsCell x p a (Some c) → given_of Int x p m ≡ Found (pos n) → moved c.element 0 target to n ≡ Found others →
        Comes limit o x p (inst op.Headm a m b) (After x p d.place others)
    pub no_bytes : (a b : Operand) (m : Middle) (target : List Word) (to n : ℕ) → Leads x p b target to → ReadsCell x p a None →
        given_of Int x p m ≡ Found (pos n) → Comes limit o x p (inst op.Headm a m b) (Raises nil_text)
    pub typed : (a b : Operand) (m : Middle) (c : Linked) (target vs others : List Word) (to : ℕ) (desc : TypeDesc)
        (d : Leads x p b target to) → to % 4 ≡ 0 → ReadsCell x p a (Some c) → middle_type o m ≡ Found desc →
        typed_words desc c.element 0 ≡ Found vs → put target (to / 4) vs ≡ Found others →
        Comes limit o x p (inst op.Headmp a m b) (After x p d.place others)
    pub no_typed : (a b : Operand) (m : Middle) (target : List Word) (to : ℕ) (desc : TypeDesc) → Leads x p b target to → to % 4 ≡ 0 →
        ReadsCell x p a None → middle_type o m ≡ Found desc → Comes limit o x p (inst op.Headmp a m b) (Raises nil_text)

  -- What is behind the first cell, and how many cells there are.
  pub record ListsAreRead : Type 0 where
    pub tail : (a b : Operand) (m : Middle) (c : Linked) (d : ReferenceThere x p b) → ReadsCell x p a (Some c) →
        Comes limit o x p (inst op.Tail a m b) (AfterReference x p d c.rest)
    pub no_tail : (a b : Operand) (m : Middle) → ReferenceThere x p b → ReadsCell x p a None →
        Comes limit o x p (inst op.Tail a m b) (Raises nil_text)
    pub long : (a b : Operand) (m : Middle) (r : Option ℕ) (n : ℕ) (others : List Word) (d : NumberThere x p Int b) →
        source_reference x p a ≡ Found r → list_length x r ≡ Found n →
        with_number_at Int d.words (pos d.byte) (wrapped Int (pos n)) ≡ Found others →
        Comes limit o x p (inst op.Lenl a m b) (After x p d.leads.place others)

  pub record ChannelsAreMade : Type 0 where
    pub bytes : (a b : Operand) (d : ReferenceThere x p b) →
        Comes limit o x p (inst op.Newcb a middle.None b) (AfterBlock x p d (Channel (type_of_size 1 [])))
    pub ints : (a b : Operand) (d : ReferenceThere x p b) →
        Comes limit o x p (inst op.Newcw a middle.None b) (AfterBlock x p d (Channel (type_of_size 4 [])))
    pub bigs : (a b : Operand) (d : ReferenceThere x p b) →
        Comes limit o x p (inst op.Newcl a middle.None b) (AfterBlock x p d (Channel (type_of_size 8 [])))
    pub references : (a b : Operand) (d : ReferenceThere x p b) →
        Comes limit o x p (inst op.Newcp a middle.None b) (AfterBlock x p d (Channel (type_of_size 4 (128 ∷ []))))
    pub plain : (a b : Operand) (size : ℕ) (d : ReferenceThere x p b) → immediate a ≡ Found size →
        Comes limit o x p (inst op.Newcm a middle.None b) (AfterBlock x p d (Channel (type_of_size size [])))
    pub typed : (a b : Operand) (desc : TypeDesc) (d : ReferenceThere x p b) → source_type o a ≡ Found desc →
        Comes limit o x p (inst op.Newcmp a middle.None b) (AfterBlock x p d (Channel desc))

  pub record ListsCome : Type 0 where
    pub make : CellsAreMade
    pub head : HeadsAreRead
    pub read : ListsAreRead
    pub channel : ChannelsAreMade

abbrev pub ListsComeAll : Type 0
ListsComeAll = (limit : ℕ) (o : Object) (x : World) (p : Process) → ListsCome limit o x p
