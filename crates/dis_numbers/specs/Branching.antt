-- A process that goes on elsewhere, or with its next instruction.
use Rattle.std.specs.Prelude.{ℕ, Bool, if◌then◌else◌}
use Rattle.dis_isa.specs.declared.inst.Inst.{Inst}
use Rattle.dis_file.specs.declared.object.Object.{Object}
use Rattle.limbo_values.specs.declared.number.Kind.{Kind}
use Rattle.limbo_values.specs.declared.operator.Comparison.{Comparison}
use Rattle.limbo_values.specs.Operators.{compared}
use Rattle.dis_meaning.specs.Words.{Access, Found, ◌>>=◌}
use Rattle.dis_meaning.specs.Process.{Process}
use Rattle.dis_memory.specs.Blocks.{World}
use Rattle.dis_memory.specs.Places.{source_of, given_of}
use Rattle.dis_memory.specs.Operands.{target}
use Rattle.dis_memory.specs.Process.{Does}
use Rattle.dis_memory.specs.Numbers.{branch}
use Rattle.dis_code.specs.Jumps.{gone_to}
use Rattle.dis_results.specs.Going.{moved_on}

abbrev pub branched : Process → (taken : Bool) → (pc : ℕ) → Process
branched p taken pc = if taken then gone_to p pc else moved_on p

-- The process goes on there where the source stands so to the middle, both numbers of a kind.
abbrev pub number_branches : Object → World → Process → Inst → Kind → Comparison → Access Does
number_branches o x p i kind c =
    source_of kind x p i.src >>= λ s.
    given_of kind x p i.middle >>= λ m.
    target o i.dst >>= λ pc.
    Found (branch o x p i (compared c s m) pc)
