-- The numbers of refusals.
use Rattle.std.specs.Prelude.{ℕ}
use Rattle.limbo_declare.specs.declared.fault.NameFault.{NameFault}
use Rattle.limbo_declare.specs.declared.fault.NameFault.TheVariants.{NoMemory, Twice, Unknown, NoModule, NotConstant}

-- want of memory is no refusal
abbrev pub number_of : NameFault → ℕ
number_of NoMemory = 0
number_of (Twice path at) = 41
number_of (Unknown path at) = 42
number_of NoModule = 42
number_of (NotConstant path at) = 43
