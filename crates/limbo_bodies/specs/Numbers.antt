-- The numbers of refusals.
use Rattle.std.specs.Prelude.{ℕ}
use Rattle.limbo_bodies.specs.declared.fault.DefinitionFault.{DefinitionFault}
use Rattle.limbo_bodies.specs.declared.fault.DefinitionFault.TheVariants as fault

-- want of memory is no refusal
abbrev pub number_of : DefinitionFault → ℕ
number_of fault.NoMemory = 0
number_of (fault.Unknown at) = 42
number_of (fault.NotAType at) = 50
number_of fault.Undeclared = 42
number_of fault.Differs = 50
