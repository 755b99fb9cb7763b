-- Instructions that move data (Dis Virtual Machine Specification, the instructions by name): movw, movp, movm, movmp, lea.
use Rattle.dis_isa.specs.declared.inst.Inst.{Inst}
use Rattle.dis_file.specs.declared.object.Object.{Object}
use Rattle.limbo_values.specs.declared.number.Kind.TheVariants.{Int}
use Rattle.dis_meaning.specs.Words.{Access, Found, ◌>>=◌, at_least_zero, word_number}
use Rattle.dis_meaning.specs.Process.{Process}
use Rattle.dis_meaning.specs.Places.{place_in, address}
use Rattle.dis_memory.specs.Blocks.{World}
use Rattle.dis_memory.specs.Places.{spot, around, words_at, with_words_at, given_of, source_plain, source_reference}
use Rattle.dis_memory.specs.Operands.{middle_type}
use Rattle.dis_memory.specs.Copies.{moved, put, typed_words}
use Rattle.dis_memory.specs.Process.{Does, next}
use Rattle.dis_memory.specs.Results.{gives_plain_at, gives_reference}

module _ (o : Object) (x : World) (p : Process) (i : Inst) where
  -- A plain word, whatever stands in it, and a reference.
  abbrev pub movw : Access Does
  movw = source_plain x p i.src >>= λ w. spot x p i.dst >>= λ d. gives_plain_at x p d (Found w)

  abbrev pub movp : Access Does
  movp = source_reference x p i.src >>= λ r. gives_reference x p i.dst (Found r)

  -- So many bytes of plain words.
  abbrev pub movm : Access Does
  movm =
      spot x p i.src >>= λ s.
      words_at x p s >>= λ source.
      at_least_zero (place_in s) >>= λ from.
      given_of Int x p i.middle >>= at_least_zero >>= λ count.
      spot x p i.dst >>= λ d.
      words_at x p d >>= λ target.
      at_least_zero (place_in d) >>= λ to.
      moved source from target to count >>= with_words_at x p d >>= λ m.
      Found (next m)

  -- A value of a type, whose references go with it.
  abbrev pub movmp : Access Does
  movmp =
      spot x p i.src >>= λ s.
      words_at x p s >>= λ source.
      word_number (place_in s) >>= λ from.
      middle_type o i.middle >>= λ desc.
      typed_words desc source from >>= λ vs.
      spot x p i.dst >>= λ d.
      words_at x p d >>= λ target.
      word_number (place_in d) >>= λ to.
      put target to vs >>= with_words_at x p d >>= λ m.
      Found (next m)

  -- The address of a byte.
  abbrev pub lea : Access Does
  lea =
      spot x p i.src >>= λ s.
      around x p s >>= λ w.
      spot x p i.dst >>= λ d.
      gives_plain_at x p d (Found (address p s))
