-- Instructions on records and arrays: new, newz, newa, newaz, indx and its like, lena, slicea, slicela.
use Rattle.std.specs.Prelude.{ℕ, ℤ, pos, negsuc, ◌+◌, ◌-◌, ◌*◌, ◌/◌, ◌+ℤ◌, Bool, ◌==◌, ◌&&◌, List, Option, Some, None, nat_eq, nat_le}
use Rattle.std.specs.Prelude.{if◌then◌else◌}
use Rattle.std.specs.Cmp.Lexicographic.{pointwise}
use Rattle.dis_isa.specs.declared.inst.Inst.{Inst}
use Rattle.dis_file.specs.declared.object.Object.{Object}
use Rattle.dis_file.specs.declared.types.TypeDesc.{TypeDesc}
use Rattle.limbo_values.specs.declared.number.Kind.TheVariants.{Int}
use Rattle.limbo_values.specs.Texts.{index_in, bounds_in}
use Rattle.dis_meaning.specs.Words.{Word, InBlock, Address, Access, Found, Wrong, Raises, ◌>>=◌, type_check, blank}
use Rattle.dis_meaning.specs.Process.{Process}
use Rattle.dis_memory.specs.Blocks.{Block, Record, Part, World, blank_array, bytes_for, refers, most_bytes}
use Rattle.dis_memory.specs.Raising.{not_nil, unless_raised, negative_text, large_text}
use Rattle.dis_meaning.specs.Places.{Spot}
use Rattle.dis_memory.specs.Places.{memory, with_data, spot, middle_spot, source_of, given_of, source_reference, reference_at}
use Rattle.dis_memory.specs.Operands.{source_type, middle_type}
use Rattle.dis_memory.specs.Kinds.{Elements, elements_at, length_of}
use Rattle.dis_memory.specs.Copies.{taken, put, moved}
use Rattle.dis_memory.specs.Process.{Does, next}
use Rattle.dis_memory.specs.Results.{gives_number, gives_plain_at, gives_reference_at, gives_block, gives_block_at}

-- A new array of so many elements, unless there are fewer than none or they take too many bytes.
abbrev pub if_small : TypeDesc → ℕ → Access Block
if_small element n = if nat_le (bytes_for element n) most_bytes then Found (blank_array element n) else Raises large_text

abbrev pub new_array : TypeDesc → ℤ → Access Block
new_array element (pos n) = if_small element n
new_array element (negsuc n) = Raises negative_text

-- Two types are alike: of one size, with one map.
abbrev pub are_alike : TypeDesc → TypeDesc → Bool
are_alike a b = (a.size == b.size) && pointwise nat_eq a.map b.map

-- Elements of an array over those of another, from one on. Where an element refers to nothing, bytes go.
abbrev pub overwritten : (source target : Elements) → (at : ℕ) → Access (List Word)
overwritten s t at =
    if refers s.element
    then taken s.words (s.start * (s.element.size / 4)) (s.long * (s.element.size / 4)) >>=
    put t.words ((t.start + at) * (t.element.size / 4))
    else moved s.words (s.start * s.element.size) t.words ((t.start + at) * t.element.size) (s.long * s.element.size)

-- What is copied from nil, and into it, is nothing.
abbrev pub copied : World → Process → (source target : Option Elements) → (at : ℕ) → Access Does
copied x p (Some s) (Some t) at =
    overwritten s t at >>= λ words. with_data x t.array words >>= λ y. Found (next (memory y p))
copied x p _ _ at = Found (next (memory x p))

-- Both are arrays of elements of one type, or one of them is nil.
abbrev pub of_one_type : Option Elements → Option Elements → Access (Option Elements)
of_one_type (Some s) (Some t) = if are_alike s.element t.element then Found (Some t) else Wrong type_check
of_one_type s t = Found t

-- Where so many elements end that begin there.
abbrev pub end_from : ℤ → ℕ → ℤ
end_from at n = at +ℤ pos n

module _ (o : Object) (x : World) (p : Process) (i : Inst) where
  -- A new record.
  abbrev pub new : Access Does
  new = source_type o i.src >>= λ desc. gives_block x p i.dst (Found (Record (blank desc)))

  -- A new array of so many elements of a type.
  abbrev pub newa : Access Does
  newa =
      source_of Int x p i.src >>= λ long.
      middle_type o i.middle >>= λ element.
      gives_block x p i.dst (new_array element long)

  -- The address of an element goes to the middle, by its index, which the destination has.
  abbrev pub element_address : Elements → ℤ → Access Word
  element_address e index =
      unless_raised (index_in e.long index) >>= λ k. Found (Address (InBlock e.array) (pos ((e.start + k) * e.element.size)))

  -- An instruction for elements of so many bytes, and one for any.
  abbrev pub of_size : (size : ℕ) → Option Elements → Access (Option Elements)
  of_size size None = Found None
  of_size size (Some e) = if e.element.size == size then Found (Some e) else Wrong type_check

  abbrev pub indexes : (Option Elements → Access (Option Elements)) → Access Does
  indexes kind =
      source_reference x p i.src >>= elements_at x >>= kind >>= λ es.
      middle_spot i.middle >>= λ d.
      source_of Int x p i.dst >>= λ index.
      gives_plain_at x p d (not_nil es >>= λ e. element_address e index)

  abbrev pub indx : Access Does
  indx = indexes (λ es. Found es)

  abbrev pub ind_of : (size : ℕ) → Access Does
  ind_of size = indexes (of_size size)

  abbrev pub lena : Access Does
  lena = source_reference x p i.src >>= elements_at x >>= λ es. gives_number x p Int i.dst (Found (pos (length_of es)))

  -- Part of the array that the destination refers to: a new block, of the array itself. Of nil it is nil.
  abbrev pub sliced : Spot → Option Elements → (from to : ℤ) → Access Does
  sliced d None from to = gives_reference_at x p d (unless_raised (bounds_in 0 from to) >>= λ b. Found None)
  sliced d (Some e) from to =
      gives_block_at x p d (unless_raised (bounds_in e.long from to) >>= λ b. Found (Part e.array (e.start + b.0) (b.1 - b.0)))

  abbrev pub slicea : Access Does
  slicea =
      source_of Int x p i.src >>= λ from.
      given_of Int x p i.middle >>= λ to.
      spot x p i.dst >>= λ d.
      reference_at x p d >>= elements_at x >>= λ es.
      sliced d es from to

  -- The source is copied into the destination, from an element on. What is copied stays within the destination.
  abbrev pub slicela : Access Does
  slicela =
      source_reference x p i.src >>= elements_at x >>= λ s.
      given_of Int x p i.middle >>= λ at.
      source_reference x p i.dst >>= elements_at x >>= of_one_type s >>= λ t.
      unless_raised (bounds_in (length_of t) at (end_from at (length_of s))) >>= λ b.
      copied x p s t b.0
