-- So many bytes of plain words, which go elsewhere.
use Rattle.std.specs.Prelude.{ℕ, List, Option}
use Rattle.dis_isa.specs.declared.inst.Inst.{Inst}
use Rattle.dis_file.specs.declared.object.Object.{Object}
use Rattle.limbo_values.specs.declared.number.Kind.TheVariants.{Int}
use Rattle.dis_meaning.specs.Words.{Word, Access, Found, ◌>>=◌, at_least_zero, blank}
use Rattle.dis_meaning.specs.Process.{Process}
use Rattle.dis_meaning.specs.Places.{Spot, place_in}
use Rattle.dis_memory.specs.Blocks.{World}
use Rattle.dis_memory.specs.Copies.{moved}
use Rattle.dis_memory.specs.Kinds.{Linked}
use Rattle.dis_memory.specs.Lists.{conses, plain_type}
use Rattle.dis_memory.specs.Places.{spot, words_at, with_words_at, given_of}
use Rattle.dis_memory.specs.Process.{Does, next}
use Rattle.dis_memory.specs.Raising.{not_nil}

module _ (x : World) (p : Process) where
  -- They go over what stands in a place, from these words.
  abbrev pub moved_to : (source : List Word) → (from count : ℕ) → Spot → Access Does
  moved_to source from count d =
      words_at x p d >>= λ target.
      at_least_zero (place_in d) >>= λ to.
      moved source from target to count >>= with_words_at x p d >>= λ m.
      Found (next m)

  -- They go where the destination says, from a place.
  abbrev pub moved_from : Inst → Spot → Access Does
  moved_from i s =
      words_at x p s >>= λ source.
      at_least_zero (place_in s) >>= λ from.
      given_of Int x p i.middle >>= at_least_zero >>= λ count.
      spot x p i.dst >>= moved_to source from count

  -- They go over what stands in a place, from the element of a list's first cell.
  abbrev pub head_to : Option Linked → (count : ℕ) → Spot → Access Does
  head_to cell count d =
      words_at x p d >>= λ target.
      at_least_zero (place_in d) >>= λ to.
      not_nil cell >>= λ c.
      moved c.element 0 target to count >>= with_words_at x p d >>= λ m.
      Found (next m)

-- They go into a new cell in front of the list that the destination has.
abbrev pub consed_from : Object → World → Process → Inst → Spot → Access Does
consed_from o x p i s =
    words_at x p s >>= λ source.
    at_least_zero (place_in s) >>= λ from.
    given_of Int x p i.middle >>= at_least_zero >>= λ count.
    moved source from (blank (plain_type count)) 0 count >>= λ element.
    conses o x p i (Found element)
