-- Values of a type, which stand in words one behind the other.
use Rattle.std.specs.Prelude.{List, Option}
use Rattle.dis_isa.specs.declared.inst.Inst.{Inst}
use Rattle.dis_isa.specs.declared.inst.Operand.{Operand}
use Rattle.dis_file.specs.declared.object.Object.{Object}
use Rattle.dis_file.specs.declared.types.TypeDesc.{TypeDesc}
use Rattle.dis_meaning.specs.Words.{Word, Access, Found, ◌>>=◌, word_number}
use Rattle.dis_meaning.specs.Process.{Process}
use Rattle.dis_meaning.specs.Places.{Spot, place_in}
use Rattle.dis_memory.specs.Blocks.{World}
use Rattle.dis_memory.specs.Copies.{put, typed_words}
use Rattle.dis_memory.specs.Kinds.{Linked}
use Rattle.dis_memory.specs.Operands.{middle_type}
use Rattle.dis_memory.specs.Places.{spot, words_at, with_words_at}
use Rattle.dis_memory.specs.Process.{Does, next}
use Rattle.dis_memory.specs.Raising.{not_nil}

-- The source's value, of the middle's type.
abbrev pub value_named : Object → World → Process → Inst → Access (List Word)
value_named o x p i =
    spot x p i.src >>= λ s.
    words_at x p s >>= λ source.
    word_number (place_in s) >>= λ from.
    middle_type o i.middle >>= λ desc.
    typed_words desc source from

-- A value goes over what stands in a place, where an operand says; and the first element of a list, if there is one.
abbrev pub value_at : World → Process → List Word → Spot → Access Does
value_at x p vs d =
    words_at x p d >>= λ target. word_number (place_in d) >>= λ to. put target to vs >>= with_words_at x p d >>= λ m. Found (next m)

abbrev pub value_to : World → Process → Operand → List Word → Access Does
value_to x p o vs = spot x p o >>= value_at x p vs

abbrev pub head_at : World → Process → Option Linked → TypeDesc → Spot → Access Does
head_at x p cell desc d =
    words_at x p d >>= λ target.
    word_number (place_in d) >>= λ to.
    not_nil cell >>= λ c.
    typed_words desc c.element 0 >>= put target to >>= with_words_at x p d >>= λ m.
    Found (next m)
