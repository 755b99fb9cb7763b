-- What is told of a source that is no typed module.
use Rattle.std.specs.Prelude.{◌≡◌, ℕ, Option, None, option_map}
use Rattle.limbo_stmt_values.specs.limbo_stating.Reasons.{Reason, number_of}
use Rattle.limbo_stmt_values.specs.declared.fault.Why.{Why}
use Rattle.limbo_stmt_values.specs.Whys.{FailsFor, reason_told}
use Rattle.limbo_modules.specs.declared.fault.ModuleFault.{ModuleFault}
use Rattle.limbo_modules.specs.declared.fault.ModuleFault.TheVariants.{NoMemory, Refused}

-- What is told, if anything is, is such a reason.
abbrev pub FailsWith : ModuleFault → (Reason → Type 0) → Type 0
FailsWith NoMemory P = Unit {0}
FailsWith (Refused why path at) P = FailsFor why P

-- This is told, or want of memory.
abbrev pub Tells : Why → ModuleFault → Type 0
Tells why NoMemory = Unit {0}
Tells why (Refused w path at) = w ≡ why

-- the number under which it is told
abbrev pub number_told : ModuleFault → Option ℕ
number_told NoMemory = None
number_told (Refused why path at) = option_map number_of (reason_told why)
