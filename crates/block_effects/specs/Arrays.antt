-- What instructions on records and arrays come to.
use Rattle.std.specs.Prelude.{ℕ, ℤ, pos, negsuc, ◌+◌, ◌-◌, ◌*◌, ◌/◌, ◌≡◌, ◌⊎◌, true, false, List, Option, Some, None, Ok, Err, nat_le}
use Rattle.heap_model.specs.Heap.{at}
use Rattle.dis_isa.specs.declared.inst.Middle.{Middle}
use Rattle.dis_isa.specs.declared.inst.Operand.{Operand}
use Rattle.dis_isa.specs.declared.op.Op.{Op}
use Rattle.dis_isa.specs.declared.op.Op.TheVariants as op
use Rattle.dis_file.specs.declared.object.Object.{Object}
use Rattle.dis_file.specs.declared.types.TypeDesc.{TypeDesc}
use Rattle.limbo_values.specs.declared.number.Kind.{Kind}
use Rattle.limbo_values.specs.declared.number.Kind.TheVariants as kind
use Rattle.limbo_values.specs.declared.number.Kind.TheVariants.{Int}
use Rattle.limbo_values.specs.declared.raised.Raised.{Raised}
use Rattle.limbo_values.specs.Operators.{text_of}
use Rattle.limbo_values.specs.Texts.{index_in, bounds_in}
use Rattle.dis_meaning.specs.Words.{Word, Address, InBlock, Found, Raises, blank}
use Rattle.dis_meaning.specs.Numbers.{with_number_at}
use Rattle.dis_meaning.specs.Process.{Process}
use Rattle.dis_memory.specs.Blocks.{Record, Array, Part, World, blank_array, bytes_for, most_bytes, refers, with_changed}
use Rattle.dis_memory.specs.Raising.{nil_text, negative_text, large_text}
use Rattle.dis_memory.specs.Places.{memory, source_of, given_of}
use Rattle.dis_memory.specs.Operands.{source_type, middle_type}
use Rattle.dis_memory.specs.Kinds.{Elements, elements_at, length_of}
use Rattle.dis_memory.specs.Copies.{taken, put, moved}
use Rattle.dis_memory.specs.Arrays.{are_alike, end_from}
use Rattle.dis_memory.specs.Process.{next}
use Rattle.value_moves.specs.Operands.{inst, of_own}
use Rattle.value_moves.specs.Changing.{bytes_in}
use Rattle.block_effects.specs.Stored.{Comes, After, NumberThere, ReferenceThere, PlainThere, AfterReference, AfterBlock, AfterPlain}
use Rattle.block_effects.specs.Stored.{ReadsElements}

-- Instructions that make a record, or an array.
abbrev pub MakesRecord : Op → Type 0
MakesRecord f = (f ≡ op.New) ⊎ (f ≡ op.Newz)

abbrev pub MakesArray : Op → Type 0
MakesArray f = (f ≡ op.Newa) ⊎ (f ≡ op.Newaz)

-- Those for the address of an element that is a number of a kind.
abbrev pub index_of : Kind → Op
index_of kind.Byte = op.Indb
index_of kind.Int = op.Indw
index_of kind.Big = op.Indl

-- The address of an element.
abbrev pub element_of : Elements → ℕ → Word
element_of e k = Address (InBlock e.array) (pos ((e.start + k) * e.element.size))

module _ (limit : ℕ) (o : Object) (x : World) (p : Process) where
  pub record BlocksAreMade : Type 0 where
    pub new : (f : Op) (a b : Operand) (m : Middle) (desc : TypeDesc) (d : ReferenceThere x p b) → MakesRecord f →
        source_type o a ≡ Found desc → Comes limit o x p (inst f a m b) (AfterBlock x p d (Record (blank desc)))
    pub array : (f : Op) (a b : Operand) (m : Middle) (element : TypeDesc) (n : ℕ) (d : ReferenceThere x p b) → MakesArray f →
        source_of Int x p a ≡ Found (pos n) → middle_type o m ≡ Found element → nat_le (bytes_for element n) most_bytes ≡ true →
        Comes limit o x p (inst f a m b) (AfterBlock x p d (blank_array element n))
    pub too_large : (f : Op) (a b : Operand) (m : Middle) (element : TypeDesc) (n : ℕ) → ReferenceThere x p b → MakesArray f →
        source_of Int x p a ≡ Found (pos n) → middle_type o m ≡ Found element → nat_le (bytes_for element n) most_bytes ≡ false →
        Comes limit o x p (inst f a m b) (Raises large_text)
    pub negative : (f : Op) (a b : Operand) (m : Middle) (element : TypeDesc) (n : ℕ) → ReferenceThere x p b → MakesArray f →
        source_of Int x p a ≡ Found (negsuc n) → middle_type o m ≡ Found element →
        Comes limit o x p (inst f a m b) (Raises negative_text)

  -- The address of an element goes to a word of the frame. Elements of a kind have as many bytes as it has.
  pub record ElementsAreIndexed : Type 0 where
    pub found : (a b : Operand) (n : ℕ) (e : Elements) (index : ℤ) (k : ℕ) → PlainThere x p n → ReadsElements x p a (Some e) →
        source_of Int x p b ≡ Found index → index_in e.long index ≡ Ok k →
        Comes limit o x p (inst op.Indx a (of_own n) b) (AfterPlain x p n (element_of e k))
    pub no_index : (a b : Operand) (n : ℕ) (e : Elements) (index : ℤ) (raised : Raised) → PlainThere x p n → ReadsElements x p a (Some e) →
        source_of Int x p b ≡ Found index → index_in e.long index ≡ Err raised →
        Comes limit o x p (inst op.Indx a (of_own n) b) (Raises (text_of raised))
    pub of_nil : (a b : Operand) (n : ℕ) (index : ℤ) → PlainThere x p n → ReadsElements x p a None → source_of Int x p b ≡ Found index →
        Comes limit o x p (inst op.Indx a (of_own n) b) (Raises nil_text)
    pub number : (kind : Kind) (a b : Operand) (n : ℕ) (e : Elements) (index : ℤ) (k : ℕ) → PlainThere x p n →
        ReadsElements x p a (Some e) → e.element.size ≡ bytes_in kind → source_of Int x p b ≡ Found index → index_in e.long index ≡ Ok k →
        Comes limit o x p (inst (index_of kind) a (of_own n) b) (AfterPlain x p n (element_of e k))
    pub no_number : (kind : Kind) (a b : Operand) (n : ℕ) (e : Elements) (index : ℤ) (raised : Raised) → PlainThere x p n →
        ReadsElements x p a (Some e) → e.element.size ≡ bytes_in kind → source_of Int x p b ≡ Found index →
        index_in e.long index ≡ Err raised → Comes limit o x p (inst (index_of kind) a (of_own n) b) (Raises (text_of raised))
    pub number_of_nil : (kind : Kind) (a b : Operand) (n : ℕ) (index : ℤ) → PlainThere x p n → ReadsElements x p a None →
        source_of Int x p b ≡ Found index → Comes limit o x p (inst (index_of kind) a (of_own n) b) (Raises nil_text)

  -- How many elements there are, and part of an array: of nil it is nil.
  pub record ArraysAreRead : Type 0 where
    pub long : (a b : Operand) (m : Middle) (es : Option Elements) (others : List Word) (d : NumberThere x p Int b) →
        ReadsElements x p a es → with_number_at Int d.words (pos d.byte) (pos (length_of es)) ≡ Found others →
        Comes limit o x p (inst op.Lena a m b) (After x p d.leads.place others)
    pub slice : (a b : Operand) (m : Middle) (from to : ℤ) (e : Elements) (bounds : ℕ × ℕ) (d : ReferenceThere x p b) →
        source_of Int x p a ≡ Found from → given_of Int x p m ≡ Found to → elements_at x d.old ≡ Found (Some e) →
        bounds_in e.long from to ≡ Ok bounds →
        Comes limit o x p (inst op.Slicea a m b) (AfterBlock x p d (Part e.array (e.start + bounds.0) (bounds.1 - bounds.0)))
    pub no_slice : (a b : Operand) (m : Middle) (from to : ℤ) (es : Option Elements) (raised : Raised) (d : ReferenceThere x p b) →
        source_of Int x p a ≡ Found from → given_of Int x p m ≡ Found to → elements_at x d.old ≡ Found es →
        bounds_in (length_of es) from to ≡ Err raised → Comes limit o x p (inst op.Slicea a m b) (Raises (text_of raised))
    pub slice_of_nil : (a b : Operand) (m : Middle) (from to : ℤ) (bounds : ℕ × ℕ) (d : ReferenceThere x p b) →
        source_of Int x p a ≡ Found from → given_of Int x p m ≡ Found to → elements_at x d.old ≡ Found None →
        bounds_in 0 from to ≡ Ok bounds → Comes limit o x p (inst op.Slicea a m b) (AfterReference x p d None)

  -- Elements are copied over those of another array of the same type, from one on: words where some refer, and else bytes.
  pub record ElementsAreCopied : Type 0 where
    pub words : (a b : Operand) (m : Middle) (index : ℤ) (s t : Elements) (bounds : ℕ × ℕ) (element : TypeDesc) (long : ℕ)
        (old vs new : List Word) → ReadsElements x p a (Some s) → given_of Int x p m ≡ Found index → ReadsElements x p b (Some t) →
        are_alike s.element t.element ≡ true → bounds_in t.long index (end_from index s.long) ≡ Ok bounds → refers s.element ≡ true →
        taken s.words (s.start * (s.element.size / 4)) (s.long * (s.element.size / 4)) ≡ Found vs →
        put t.words ((t.start + bounds.0) * (t.element.size / 4)) vs ≡ Found new → at x.heap t.array ≡ Some (Array element long old) →
        Comes limit o x p (inst op.Slicela a m b) (Found (next (memory (with_changed x t.array (Array element long new)) p)))
    pub bytes : (a b : Operand) (m : Middle) (index : ℤ) (s t : Elements) (bounds : ℕ × ℕ) (element : TypeDesc) (long : ℕ)
        (old new : List Word) → ReadsElements x p a (Some s) → given_of Int x p m ≡ Found index → ReadsElements x p b (Some t) →
        are_alike s.element t.element ≡ true → bounds_in t.long index (end_from index s.long) ≡ Ok bounds → refers s.element ≡ false →
        moved s.words (s.start * s.element.size) t.words ((t.start + bounds.0) * t.element.size) (s.long * s.element.size) ≡ Found new →
        at x.heap t.array ≡ Some (Array element long old) →
        Comes limit o x p (inst op.Slicela a m b) (Found (next (memory (with_changed x t.array (Array element long new)) p)))
    -- what is copied from nil, and into it, is nothing
    pub from_nil : (a b : Operand) (m : Middle) (index : ℤ) (t : Option Elements) (bounds : ℕ × ℕ) → ReadsElements x p a None →
        given_of Int x p m ≡ Found index → ReadsElements x p b t → bounds_in (length_of t) index (end_from index 0) ≡ Ok bounds →
        Comes limit o x p (inst op.Slicela a m b) (Found (next (memory x p)))
    pub into_nil : (a b : Operand) (m : Middle) (index : ℤ) (s : Option Elements) (bounds : ℕ × ℕ) → ReadsElements x p a s →
        given_of Int x p m ≡ Found index → ReadsElements x p b None → bounds_in 0 index (end_from index (length_of s)) ≡ Ok bounds →
        Comes limit o x p (inst op.Slicela a m b) (Found (next (memory x p)))
    pub outside : (a b : Operand) (m : Middle) (index : ℤ) (s t : Elements) (raised : Raised) → ReadsElements x p a (Some s) →
        given_of Int x p m ≡ Found index → ReadsElements x p b (Some t) → are_alike s.element t.element ≡ true →
        bounds_in t.long index (end_from index s.long) ≡ Err raised → Comes limit o x p (inst op.Slicela a m b) (Raises (text_of raised))
    pub outside_from_nil : (a b : Operand) (m : Middle) (index : ℤ) (t : Option Elements) (raised : Raised) → ReadsElements x p a None →
        given_of Int x p m ≡ Found index → ReadsElements x p b t → bounds_in (length_of t) index (end_from index 0) ≡ Err raised →
        Comes limit o x p (inst op.Slicela a m b) (Raises (text_of raised))
    pub outside_nil : (a b : Operand) (m : Middle) (index : ℤ) (s : Option Elements) (raised : Raised) → ReadsElements x p a s →
        given_of Int x p m ≡ Found index → ReadsElements x p b None → bounds_in 0 index (end_from index (length_of s)) ≡ Err raised →
        Comes limit o x p (inst op.Slicela a m b) (Raises (text_of raised))

  pub record ArraysCome : Type 0 where
    pub make : BlocksAreMade
    pub index : ElementsAreIndexed
    pub read : ArraysAreRead
    pub copy : ElementsAreCopied

abbrev pub ArraysComeAll : Type 0
ArraysComeAll = (limit : ℕ) (o : Object) (x : World) (p : Process) → ArraysCome limit o x p
