-- What stands at a path, and elsewhere, after an object's bytes were to be written there.
use Rattle.std.specs.Prelude.{ℕ, List, Some}
use Rattle.inf_ports.specs.Outside.{Told, Stands, AnythingStands, Rose}
use Rattle.inf_ports.specs.declared.host_tree.HostFault.{HostFault}
use Rattle.inf_ports.specs.declared.host_tree.HostFault.TheVariants as fault
use Rattle.limbo_command.specs.declared.command.WriteEnd.{WriteEnd}
use Rattle.limbo_command.specs.declared.command.WriteEnd.TheVariants.{Done, Failed, NoMemory}

-- By how the write ended: these bytes stand at the path; or the count of the files rose, or memory ran out, and any bytes or no file
-- stand there. All else stands as before.
abbrev pub IsLeft : (old new : Told) → (path bytes : List ℕ) → (before now : ℕ) → WriteEnd → Type 0
IsLeft old new path bytes before now Done = Stands old new path (Some bytes)
IsLeft old new path bytes before now Failed = AnythingStands old new path × Rose before now
IsLeft old new path bytes before now NoMemory = AnythingStands old new path

-- what a write that was refused ends as
abbrev pub unwritten : HostFault → WriteEnd
unwritten fault.NoMemory = NoMemory
unwritten fault.NoFile = Failed
unwritten fault.Failed = Failed
