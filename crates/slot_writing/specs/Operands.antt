-- Which operands stand as they are, with no code in front of them.
use Rattle.std.specs.Prelude.{ℕ, if◌then◌else◌, Option, None, Some}
use Rattle.typed_meaning.specs.Trees.{Term}
use Rattle.slot_code.specs.Code.{Operand}
use Rattle.typed_lower.specs.declared.taking.Taking.{Taking}
use Rattle.typed_lower.specs.Kinds.{kind_in, leaf, changes}
use Rattle.typed_lower.specs.Terms.{Ready, ready_of, part_of, taken_by}

abbrev pub unless_changed : Option Operand → Term → Option Operand
unless_changed None u = None
unless_changed (Some x) u = if changes x u then None else Some x

-- What an instruction takes as it is.
abbrev pub taken : Taking → Term → Option Operand
taken y t = taken_by y (leaf t)

-- And while another term is evaluated behind it.
abbrev pub standing : Taking → Term → Term → Option Operand
standing y t u = unless_changed (taken y t) u

-- a term that stands there, or that a temporary has
abbrev pub ready_at : ℕ → Term → Option Operand → Ready
ready_at d t x = ready_of d (kind_in t) x (part_of t).value
