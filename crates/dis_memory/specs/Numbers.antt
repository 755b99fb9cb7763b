-- Instructions on bytes, ints and bigs, by the table of these. `beqw` and `bnew` also compare two references.
use Rattle.std.specs.Prelude.{ℕ, Bool, true, false, not, nat_eq, Option, Some, None, if◌then◌else◌}
use Rattle.dis_isa.specs.declared.inst.Inst.{Inst}
use Rattle.dis_file.specs.declared.object.Object.{Object}
use Rattle.limbo_values.specs.declared.number.Kind.{Kind}
use Rattle.limbo_values.specs.declared.number.Kind.TheVariants.{Int}
use Rattle.limbo_values.specs.declared.operator.Operator.{Operator}
use Rattle.limbo_values.specs.declared.operator.Shift.{Shift}
use Rattle.limbo_values.specs.declared.operator.Comparison.{Comparison}
use Rattle.limbo_values.specs.declared.operator.Comparison.TheVariants.{Equal, Unequal}
use Rattle.limbo_values.specs.Numbers.{wrapped}
use Rattle.limbo_values.specs.Operators.{applied, shifted, compared}
use Rattle.dis_meaning.specs.Words.{Word, Refer, Access, Found, Wrong, ◌>>=◌, type_check, number_in}
use Rattle.dis_meaning.specs.Process.{Process}
use Rattle.dis_meaning.specs.Numbers.{Row, Calculates, Shifts, Converts, Moves, Branches}
use Rattle.dis_memory.specs.Blocks.{World}
use Rattle.dis_memory.specs.Raising.{unless_raised}
use Rattle.dis_memory.specs.Places.{memory, source_of, middle_of, given_of, source_word, middle_word}
use Rattle.dis_memory.specs.Operands.{target}
use Rattle.dis_memory.specs.Process.{Does, jumps, next}
use Rattle.dis_memory.specs.Results.{gives_number}

-- Two references are equal where they name one block, or nothing both.
abbrev pub same_reference : Option ℕ → Option ℕ → Bool
same_reference None None = true
same_reference (Some n) (Some m) = nat_eq n m
same_reference _ _ = false

abbrev pub references_compared : Comparison → Option ℕ → Option ℕ → Access Bool
references_compared Equal r s = Found (same_reference r s)
references_compared Unequal r s = Found (not (same_reference r s))
references_compared _ r s = Wrong type_check

-- Two words: both refer, or both are numbers.
abbrev pub words_compared : Comparison → Word → Word → Access Bool
words_compared c (Refer r) (Refer s) = references_compared c r s
words_compared c w v = number_in w >>= λ a. number_in v >>= λ b. Found (compared c a b)

module _ (o : Object) (x : World) (p : Process) (i : Inst) where
  -- The middle is the left operand, the source the right one.
  abbrev pub calculates : Kind → Operator → Access Does
  calculates kind operator =
      source_of kind x p i.src >>= λ s.
      middle_of kind x p i.middle i.dst >>= λ m.
      gives_number x p kind i.dst (unless_raised (applied kind operator m s))

  -- The middle is shifted, by a source that is an int.
  abbrev pub shifts : Kind → Shift → Access Does
  shifts kind shift =
      source_of Int x p i.src >>= λ count.
      middle_of kind x p i.middle i.dst >>= λ m.
      gives_number x p kind i.dst (Found (shifted kind shift m count))

  abbrev pub converts : (from to : Kind) → Access Does
  converts from to = source_of from x p i.src >>= λ s. gives_number x p to i.dst (Found (wrapped to s))

  abbrev pub moves : Kind → Access Does
  moves kind = source_of kind x p i.src >>= λ s. gives_number x p kind i.dst (Found s)

  abbrev pub branch : Bool → ℕ → Does
  branch holds pc = if holds then jumps x p pc else next (memory x p)

  -- The process goes on there where the source stands so to the middle.
  abbrev pub branches : Kind → Comparison → Access Does
  branches Int c =
      source_word x p i.src >>= λ s.
      middle_word x p i.middle >>= λ m.
      words_compared c s m >>= λ holds.
      target o i.dst >>= λ pc.
      Found (branch holds pc)
  branches kind c =
      source_of kind x p i.src >>= λ s.
      given_of kind x p i.middle >>= λ m.
      target o i.dst >>= λ pc.
      Found (branch (compared c s m) pc)

  abbrev pub by_row : Row → Access Does
  by_row (Calculates kind operator) = calculates kind operator
  by_row (Shifts kind shift) = shifts kind shift
  by_row (Converts from to) = converts from to
  by_row (Moves kind) = moves kind
  by_row (Branches kind comparison) = branches kind comparison
