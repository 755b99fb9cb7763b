-- Instructions on strings: addc, lenc, indc, insc, slicec, comparisons, and conversions of numbers and bytes. A string that changes is a
-- new block, and the others are as they were.
use Rattle.std.specs.Prelude.{ℕ, ℤ, pos, suc, ◌==◌, List, [], ◌∷◌, ◌++◌, length, Option, Some, None, Result, Ok, Err, nat_lt}
use Rattle.std.specs.Prelude.{slice_set, if◌then◌else◌, encode_utf8_all}
use Rattle.dis_isa.specs.declared.inst.Inst.{Inst}
use Rattle.dis_isa.specs.declared.inst.Middle.{Middle}
use Rattle.dis_isa.specs.declared.inst.Middle.TheVariants as middle
use Rattle.dis_isa.specs.declared.op.Op.{Op}
use Rattle.dis_isa.specs.declared.op.Op.TheVariants as op
use Rattle.dis_file.specs.declared.object.Object.{Object}
use Rattle.dis_file.specs.declared.types.TypeDesc.{TypeDesc}
use Rattle.limbo_values.specs.declared.number.Kind.{Kind}
use Rattle.limbo_values.specs.declared.number.Kind.TheVariants.{Int}
use Rattle.limbo_values.specs.declared.operator.Comparison.{Comparison}
use Rattle.limbo_values.specs.declared.operator.Comparison.TheVariants as comparison
use Rattle.limbo_values.specs.declared.raised.Raised.{Raised}
use Rattle.limbo_values.specs.declared.raised.Raised.TheVariants.{StringTooLong}
use Rattle.limbo_values.specs.Texts.{longest, index_in, character_in, slice_in, joined, text_compared}
use Rattle.limbo_values.specs.Conversions.{number_text, number_read}
use Rattle.system_model.specs.Verbs.{character}
use Rattle.limbo_bytes.specs.Bytes.{characters}
use Rattle.dis_meaning.specs.Words.{Access, Found, Wrong, ◌>>=◌, type_check}
use Rattle.dis_meaning.specs.Process.{Process}
use Rattle.dis_meaning.specs.Places.{Spot}
use Rattle.dis_memory.specs.Blocks.{Block, Text, Array, World}
use Rattle.dis_memory.specs.Raising.{unless_raised}
use Rattle.dis_memory.specs.Places.{spot, source_of, given_of, source_reference, middle_reference, reference_at}
use Rattle.dis_memory.specs.Operands.{target}
use Rattle.dis_memory.specs.Kinds.{Elements, text_at, elements_at}
use Rattle.dis_memory.specs.Copies.{bytes_from, put_bytes}
use Rattle.dis_memory.specs.Arrays.{new_array}
use Rattle.dis_memory.specs.Process.{Does, jumps, next}
use Rattle.dis_memory.specs.Places.{memory}
use Rattle.dis_memory.specs.Results.{gives_number, gives_block, gives_block_at}

-- A string with another character at an index, or with one more at its end, which has the code of a number.
abbrev pub not_longer : List ℕ → Result (List ℕ) Raised
not_longer s = if nat_lt longest (length s) then Err StringTooLong else Ok s

abbrev pub with_character : List ℕ → (at : ℕ) → ℕ → List ℕ
with_character s at c = if at == length s then s ++ c ∷ [] else slice_set s at c

abbrev pub inserted : List ℕ → (at code : ℤ) → Access (List ℕ)
inserted s at code =
    unless_raised (index_in (suc (length s)) at) >>= λ k. unless_raised (not_longer (with_character s k (character code)))

-- The elements of an array of bytes, which take a byte each.
abbrev pub bytes_in : Option Elements → Access (List ℕ)
bytes_in None = Found []
bytes_in (Some e) = if e.element.size == 1 then bytes_from e.words e.start e.long else Wrong type_check

abbrev pub byte_type : TypeDesc
byte_type = record { size = 1; map = [] }

abbrev pub with_bytes : List ℕ → Block → Access Block
with_bytes bs (Array element long words) = put_bytes words 0 bs >>= λ after. Found (Array element long after)
with_bytes bs _ = Wrong type_check

abbrev pub array_of : List ℕ → Access Block
array_of bs = new_array byte_type (pos (length bs)) >>= with_bytes bs

-- The comparisons of strings.
abbrev pub text_row : Op → Option Comparison
text_row op.Beqc = Some comparison.Equal
text_row op.Bnec = Some comparison.Unequal
text_row op.Bltc = Some comparison.Less
text_row op.Blec = Some comparison.AtMost
text_row op.Bgtc = Some comparison.Greater
text_row op.Bgec = Some comparison.AtLeast
text_row _ = None

module _ (o : Object) (x : World) (p : Process) (i : Inst) where
  abbrev pub source_text : Access (List ℕ)
  source_text = source_reference x p i.src >>= text_at x

  abbrev pub given_text : Access (List ℕ)
  given_text = middle_reference x p i.middle >>= text_at x

  abbrev pub text_there : Spot → Access (List ℕ)
  text_there d = reference_at x p d >>= text_at x

  -- The text of the middle: where there is none, the destination's.
  abbrev pub left_text : Middle → Access (List ℕ)
  left_text middle.None = spot x p i.dst >>= text_there
  left_text m = middle_reference x p m >>= text_at x

  -- The middle, and the source behind it.
  abbrev pub addc : Access Does
  addc =
      source_text >>= λ s.
      left_text i.middle >>= λ m.
      gives_block x p i.dst (unless_raised (joined m s) >>= λ t. Found (Text t))

  abbrev pub lenc : Access Does
  lenc = source_text >>= λ s. gives_number x p Int i.dst (Found (pos (length s)))

  -- The character of an index, which the middle has.
  abbrev pub indc : Access Does
  indc =
      source_text >>= λ s. given_of Int x p i.middle >>= λ at. gives_number x p Int i.dst (unless_raised (character_in s at))

  -- The character of the source comes to the index that the middle has.
  abbrev pub insc : Access Does
  insc =
      source_of Int x p i.src >>= λ code.
      given_of Int x p i.middle >>= λ at.
      spot x p i.dst >>= λ d.
      text_there d >>= λ s.
      gives_block_at x p d (inserted s at code >>= λ t. Found (Text t))

  -- The characters from the source on, before the middle.
  abbrev pub slicec : Access Does
  slicec =
      source_of Int x p i.src >>= λ from.
      given_of Int x p i.middle >>= λ to.
      spot x p i.dst >>= λ d.
      text_there d >>= λ s.
      gives_block_at x p d (unless_raised (slice_in s from to) >>= λ t. Found (Text t))

  -- A number as a string, and back.
  abbrev pub text_of_number : Kind → Access Does
  text_of_number kind = source_of kind x p i.src >>= λ z. gives_block x p i.dst (Found (Text (number_text z)))

  abbrev pub number_of_text : Kind → Access Does
  number_of_text kind = source_text >>= λ s. gives_number x p kind i.dst (Found (number_read kind s))

  -- A string as an array of bytes, and back, where these spell no string that is too long.
  abbrev pub cvtca : Access Does
  cvtca = source_text >>= λ s. gives_block x p i.dst (array_of (encode_utf8_all s))

  abbrev pub cvtac : Access Does
  cvtac =
      source_reference x p i.src >>= elements_at x >>= bytes_in >>= λ bs.
      gives_block x p i.dst (unless_raised (not_longer (characters 0 bs)) >>= λ t. Found (Text t))

  -- The process goes on there where the source stands so to the middle.
  abbrev pub compares : Comparison → Access Does
  compares c =
      source_text >>= λ s.
      given_text >>= λ m.
      target o i.dst >>= λ pc.
      Found (if text_compared c s m then jumps x p pc else next (memory x p))
