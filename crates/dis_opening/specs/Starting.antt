-- What a call comes to that may find no way to begin.
use Rattle.std.specs.Prelude.{◌≡◌, Result, Ok, Err}
use Rattle.dis_meaning.specs.Words.{Access, Found}
use Rattle.dis_places.specs.declared.fault.Halt.{Halt}
use Rattle.dis_places.specs.declared.fault.Halt.TheVariants as halt
use Rattle.dis_opening.specs.declared.fault.StartFault.{StartFault}
use Rattle.dis_opening.specs.declared.fault.StartFault.TheVariants.{NoMemory, Malformed}

-- Faults and what is raised are alike here: the object is malformed.
abbrev pub refused_as : Halt → StartFault
refused_as halt.NoMemory = NoMemory
refused_as _ = Malformed

-- The definition finds nothing. Of want of memory nothing is said.
abbrev pub Refuses : {T : Type 0} → StartFault → Access T → Type 0
Refuses NoMemory access = Unit {0}
Refuses {T} Malformed access = (t : T) → access ≡ Found t → ⊥

-- A call gives what is found, or refuses where nothing is.
abbrev pub Gives : {S T : Type 0} → (S → T) → Result S StartFault → Access T → Type 0
Gives see (Ok s) access = access ≡ Found (see s)
Gives see (Err fault) access = Refuses fault access
