-- What the command `dump FILE` leaves.
use Rattle.std.specs.Prelude.{ℕ, ◌≡◌, List, [], Option, None, Some}
use Rattle.inf_ports.specs.Outside.{Told}
use Rattle.dis_file.specs.declared.object.Object.{Object}
use Rattle.dis_format.specs.Objects.{Spells}
use Rattle.dis_format.specs.Reading.{IsFirstFault}
use Rattle.dis_text.specs.Listing.{listing_of}
use Rattle.dis_dump.specs.Dump.{Output, IsDump, IsShown}
use Rattle.dis_dump.specs.declared.command.DumpEnd.{DumpEnd}
use Rattle.dis_dump.specs.declared.command.DumpEnd.TheVariants as end
use Rattle.dis_machine.specs.declared.event.Journal.{Journal}
use Rattle.inferno_top.specs.Outcome.{Tells}
use Rattle.inferno_top.specs.declared.cause.Cause.{Cause}
use Rattle.inferno_top.specs.declared.cause.Cause.TheVariants as cause

-- what an end of a dump of the file is told as
abbrev pub dump_cause : List ℕ → DumpEnd → Cause
dump_cause file end.Done = cause.Done
dump_cause file (end.BadObject fault) = cause.BadObject file fault
dump_cause file (end.Unread missing) = cause.Host file missing
dump_cause file (end.SinkFault out err) = cause.SinkFault out err
dump_cause file end.NoMemory = cause.NoMemory

-- The file was dumped: the listing of its object was written, or nothing, for a cause that the file has. No machine was started.
pub record HasDumped (told : Told) (file : List ℕ) (before now : ℕ) (s : Output) (journal : Option Journal)
    (objects : List (List ℕ × Object)) (cause : Cause) : Type 0 where
  pub unstarted : journal ≡ None
  pub none : objects ≡ []
  pub end : DumpEnd
  pub dumped : IsDump told file before now s end
  pub said : cause ≡ dump_cause file end

-- the files tell bytes of the file that spell this object
pub record TellsObject (told : Told) (file : List ℕ) (o : Object) : Type 0 where
  pub bytes : List ℕ
  pub tells : Tells told file (Some bytes)
  pub spelled : Spells o bytes

-- this object's listing was written, and the cause says how that ended
pub record IsListing (file : List ℕ) (o : Object) (s : Output) (cause : Cause) : Type 0 where
  pub end : DumpEnd
  pub shown : IsShown s (listing_of o) end
  pub said : cause ≡ dump_cause file end

-- the cause is the fault of the first faulty field of the bytes, or want of memory
abbrev pub IsObjectRefusal : List ℕ → List ℕ → Cause → Type 0
IsObjectRefusal file bytes (cause.BadObject other fault) = (other ≡ file) × IsFirstFault bytes fault
IsObjectRefusal file bytes cause.NoMemory = Unit {0}
IsObjectRefusal file bytes _ = ⊥
