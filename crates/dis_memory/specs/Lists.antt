-- Instructions on lists, consb and its like, headb and its like, tail, lenl, and those that make channels.
use Rattle.std.specs.Prelude.{ℕ, pos, ◌+◌, ◌*◌, ◌/◌, List, [], ◌∷◌, Option}
use Rattle.dis_isa.specs.declared.inst.Inst.{Inst}
use Rattle.dis_isa.specs.declared.inst.Middle.{Middle}
use Rattle.dis_isa.specs.declared.inst.Middle.TheVariants as middle
use Rattle.dis_file.specs.declared.object.Object.{Object}
use Rattle.dis_file.specs.declared.types.TypeDesc.{TypeDesc}
use Rattle.limbo_values.specs.declared.number.Kind.{Kind}
use Rattle.limbo_values.specs.declared.number.Kind.TheVariants.{Int, Big}
use Rattle.limbo_values.specs.Numbers.{wrapped}
use Rattle.dis_meaning.specs.Words.{Word, Plain, Refer, Access, Found, Wrong, ◌>>=◌, type_check, blank, at_least_zero, word_number}
use Rattle.dis_meaning.specs.Words.{word_at, reference}
use Rattle.dis_meaning.specs.Numbers.{number_at, with_number_at}
use Rattle.dis_meaning.specs.Process.{Process}
use Rattle.dis_meaning.specs.Places.{Spot, place_in}
use Rattle.dis_memory.specs.Blocks.{Cell, Channel, World}
use Rattle.dis_memory.specs.Raising.{not_nil}
use Rattle.dis_memory.specs.Places.{spot, words_at, with_words_at, source_of, source_reference, given_of, reference_at}
use Rattle.dis_memory.specs.Operands.{immediate, middle_type, source_type}
use Rattle.dis_memory.specs.Kinds.{Linked, first_cell, list_length}
use Rattle.dis_memory.specs.Copies.{moved, put, typed_words}
use Rattle.dis_memory.specs.Process.{Does, next}
use Rattle.dis_memory.specs.Results.{gives_number, gives_reference, gives_block, gives_block_at}

-- A type of plain words that takes so many bytes, and the words of one that has a number.
abbrev pub plain_type : ℕ → TypeDesc
plain_type size = record { size = (size + 3) / 4 * 4; map = [] }

abbrev pub holder_of : Kind → List Word
holder_of Big = Plain (pos 0) ∷ Plain (pos 0) ∷ []
holder_of k = Plain (pos 0) ∷ []

module _ (o : Object) (x : World) (p : Process) (i : Inst) where
  -- ---- a cell in front of the list that the destination has

  abbrev pub cons_at : Spot → Access (List Word) → Access Does
  cons_at d element = reference_at x p d >>= λ rest. gives_block_at x p d (element >>= λ ws. Found (Cell ws rest))

  abbrev pub conses : Access (List Word) → Access Does
  conses element = spot x p i.dst >>= λ d. cons_at d element

  -- A number, a reference, so many bytes of plain words, a value of a type.
  abbrev pub cons_number : Kind → Access Does
  cons_number kind = source_of kind x p i.src >>= λ z. conses (with_number_at kind (holder_of kind) (pos 0) z)

  abbrev pub consp : Access Does
  consp = source_reference x p i.src >>= λ r. conses (Found (Refer r ∷ []))

  abbrev pub consm : Access Does
  consm =
      spot x p i.src >>= λ s.
      words_at x p s >>= λ source.
      at_least_zero (place_in s) >>= λ from.
      given_of Int x p i.middle >>= at_least_zero >>= λ count.
      moved source from (blank (plain_type count)) 0 count >>= λ element.
      conses (Found element)

  abbrev pub consmp : Access Does
  consmp =
      spot x p i.src >>= λ s.
      words_at x p s >>= λ source.
      word_number (place_in s) >>= λ from.
      middle_type o i.middle >>= λ desc.
      typed_words desc source from >>= λ element.
      conses (Found element)

  -- ---- the element of a list's first cell, and the rest behind it

  abbrev pub first : Access (Option Linked)
  first = source_reference x p i.src >>= first_cell x

  abbrev pub head_number : Kind → Access Does
  head_number kind =
      first >>= λ c. gives_number x p kind i.dst (not_nil c >>= λ c. number_at kind c.element (pos 0))

  abbrev pub headp : Access Does
  headp = first >>= λ c. gives_reference x p i.dst (not_nil c >>= λ c. word_at c.element (pos 0) >>= reference)

  abbrev pub headm : Access Does
  headm =
      first >>= λ c.
      given_of Int x p i.middle >>= at_least_zero >>= λ count.
      spot x p i.dst >>= λ d.
      words_at x p d >>= λ target.
      at_least_zero (place_in d) >>= λ to.
      not_nil c >>= λ c.
      moved c.element 0 target to count >>= with_words_at x p d >>= λ m.
      Found (next m)

  abbrev pub headmp : Access Does
  headmp =
      first >>= λ c.
      middle_type o i.middle >>= λ desc.
      spot x p i.dst >>= λ d.
      words_at x p d >>= λ target.
      word_number (place_in d) >>= λ to.
      not_nil c >>= λ c.
      typed_words desc c.element 0 >>= put target to >>= with_words_at x p d >>= λ m.
      Found (next m)

  abbrev pub tail : Access Does
  tail = first >>= λ c. gives_reference x p i.dst (not_nil c >>= λ c. Found c.rest)

  -- How many cells a list has, as an int: what is left of that number in its bits.
  abbrev pub lenl : Access Does
  lenl = source_reference x p i.src >>= list_length x >>= λ n. gives_number x p Int i.dst (Found (wrapped Int (pos n)))

  -- ---- channels

  -- A channel for elements of a type. It has no buffer.
  abbrev pub channel : Middle → TypeDesc → Access Does
  channel middle.None element = gives_block x p i.dst (Found (Channel element))
  channel m element = Wrong type_check

  abbrev pub newc : TypeDesc → Access Does
  newc element = channel i.middle element

  abbrev pub newcm : Access Does
  newcm = immediate i.src >>= λ size. channel i.middle (record { size = size; map = [] })

  abbrev pub newcmp : Access Does
  newcmp = source_type o i.src >>= channel i.middle
