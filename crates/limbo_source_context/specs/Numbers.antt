-- The numbers of refusals.
use Rattle.std.specs.Prelude.{ℕ}
use Rattle.limbo_source_context.specs.declared.fault.ContextFault.{ContextFault}
use Rattle.limbo_source_context.specs.declared.fault.ContextFault.TheVariants as fault

-- want of memory is no refusal
abbrev pub number_of : ContextFault → ℕ
number_of fault.NoMemory = 0
number_of (fault.Unknown k at) = 42
number_of (fault.NotAType k at) = 50
number_of (fault.TooLarge n) = 55
number_of (fault.NoType k) = 50
number_of (fault.NotThere k) = 50
number_of (fault.BadInitial k) = 50
