-- What the command `limbo FILE -o OUT` leaves.
use Rattle.std.specs.Prelude.{ℕ, ◌≡◌, ◌⊎◌, List, [], ◌∷◌, ◌++◌, Option, Some, false}
use Rattle.inf_ports.specs.Outside.{Told, Stands, AnythingStands, Rose}
use Rattle.dis_file.specs.declared.object.Object.{Object}
use Rattle.dis_format.specs.Objects.{Spells, written_form}
use Rattle.limbo_typed.specs.Typed.{Module}
use Rattle.typed_meaning.specs.Program.{Routine}
use Rattle.code_sim.specs.Keeps.{object_for, BeginsWith}
use Rattle.dis_machine.specs.declared.event.Event.{Event}
use Rattle.dis_machine.specs.declared.event.Journal.{Journal}
use Rattle.dis_machine.specs.Journal.{State, state_of, cut_events}
use Rattle.limbo_compiler.specs.Means.{Means}
use Rattle.limbo_command.specs.declared.command.WriteEnd.{WriteEnd}
use Rattle.limbo_command.specs.declared.command.WriteEnd.TheVariants as end
use Rattle.inferno_top.specs.Reading.{IsRead, IsUnread}
use Rattle.inferno_top.specs.Running.{NothingRan}
use Rattle.inferno_top.specs.declared.cause.Aim.TheVariants.{Write}
use Rattle.inferno_top.specs.declared.cause.Cause.{Cause}
use Rattle.inferno_top.specs.declared.cause.Cause.TheVariants.{Done, Host, NoMemory}

-- Each journal of a machine of this object has a run of the module beside it, wherever the module begins.
abbrev pub RunsMean : Module → Object → Type 0
RunsMean m o =
    (init : ℕ) (first : Routine) → BeginsWith m init first → (journal : List Event) (cut : Option ℕ) (t : State)
    → state_of (o ∷ []) journal cut ≡ Some t → Means m init (journal ++ cut_events cut) t

-- These bytes are an object file of this module: the written form of its object. The runs of the object that they spell mean what the
-- module means.
pub record IsObjectFile (m : Module) (bytes : List ℕ) : Type 0 where
  pub written : bytes ≡ written_form (object_for m)
  pub spelled : Spells (object_for m) bytes
  pub means : (o : Object) → Spells o bytes → RunsMean m o

-- An object file of this module stands at a path, and all else as before.
pub record IsStored (old new : Told) (out : List ℕ) (m : Module) : Type 0 where
  pub bytes : List ℕ
  pub stands : Stands old new out (Some bytes)
  pub object : IsObjectFile m bytes

-- A program was compiled, and the write of its object failed: any bytes stand there or no file, and all else as before.
pub record IsUnstored (old new : Told) (file out : List ℕ) (before now : ℕ) (path : List ℕ) : Type 0 where
  pub program : Module
  pub read : IsRead Write old file program
  pub told : path ≡ out
  pub left : AnythingStands old new out
  pub rose : Rose before now

-- What stands where, by the cause: at `Done` an object file of the program at OUT; where the write failed any bytes or none there, as where
-- memory ran out; and where the source was refused or couldn't be read, all as before.
abbrev pub IsLeft : (old new : Told) → (file out : List ℕ) → (before now : ℕ) → Cause → Type 0
IsLeft old new file out before now Done = (m : Module) × IsRead Write old file m × IsStored old new out m
IsLeft old new file out before now (Host path false) =
    IsUnstored old new file out before now path ⊎ (IsUnread Write old file before now (Host path false) × (new ≡ old))
IsLeft old new file out before now NoMemory = AnythingStands old new out
IsLeft old new file out before now cause = IsUnread Write old file before now cause × (new ≡ old)

-- The file was compiled to OUT, or there is a cause not to. Nothing was written on the output, and no machine was started.
pub record HasCompiled (old new : Told) (file out : List ℕ) (before now : ℕ) (journal : Option Journal)
    (objects : List (List ℕ × Object)) (held_before held_after : Option (List ℕ)) (cause : Cause) : Type 0 where
  pub ran : NothingRan journal objects held_before held_after
  pub left : IsLeft old new file out before now cause

-- an object file of the module stands at OUT, or memory ran out
abbrev pub IsObjectWritten : (old new : Told) → (out : List ℕ) → Module → Cause → Type 0
IsObjectWritten old new out m Done = IsStored old new out m
IsObjectWritten old new out m NoMemory = Unit {0}
IsObjectWritten old new out m _ = ⊥

-- what an end of a write at OUT is told as
abbrev pub write_cause : List ℕ → WriteEnd → Cause
write_cause out end.Done = Done
write_cause out end.Failed = Host out false
write_cause out end.NoMemory = NoMemory
