-- What a dump does: it writes the listing of the object that a file's bytes spell.
use Rattle.std.specs.Prelude.{ℕ, ◌≡◌, ◌≤◌, ◌⊎◌, List, Option, true, false}
use Rattle.std.specs.Io.KnownBytes.{Appends}
use Rattle.inf_ports.specs.Outside.{Told, Has, Lacks, Rose, AppendsPart}
use Rattle.dis_file.specs.declared.object.Object.{Object}
use Rattle.dis_format.specs.declared.fault.FileFault.{FileFault}
use Rattle.dis_format.specs.declared.fault.FileFault.TheVariants as fault
use Rattle.dis_format.specs.Objects.{Spells}
use Rattle.dis_format.specs.Reading.{IsFirstFault}
use Rattle.dis_text.specs.Listing.{listing_of}
use Rattle.dis_dump.specs.declared.command.DumpEnd.{DumpEnd}
use Rattle.dis_dump.specs.declared.command.DumpEnd.TheVariants.{Done, BadObject, Unread, SinkFault, NoMemory}

-- the bytes on the output before and after, where they are told, and the counts of faults of output and error side
pub record Output : Type 0 where
  pub old : Option (List ℕ)
  pub new : Option (List ℕ)
  pub out_before : ℕ
  pub out_after : ℕ
  pub err_before : ℕ
  pub err_after : ℕ

-- the file's bytes spell this object
pub record IsObjectAt (told : Told) (path : List ℕ) (o : Object) : Type 0 where
  pub bytes : List ℕ
  pub stands : Has told path bytes
  pub spelled : Spells o bytes

-- the file's bytes have this fault, that of their first faulty field
pub record IsBadObjectAt (told : Told) (path : List ℕ) (fault : FileFault) : Type 0 where
  pub bytes : List ℕ
  pub stands : Has told path bytes
  pub because : IsFirstFault bytes fault

-- all of a text was written, or a first part of it and the count rose
abbrev pub IsPut : Output → List ℕ → Type 0
IsPut s text = Appends s.old s.new text ⊎ (AppendsPart s.old s.new text × Rose s.out_before s.out_after)

-- no count rose, up to this one of the error side
abbrev pub IsCalm : Output → ℕ → Type 0
IsCalm s err = (err ≤ s.err_after) × (Rose s.out_before s.out_after → ⊥) × (Rose s.err_before err → ⊥)

-- What is written of a text, by how the dump ended: all of it, with no count that rose before the closing line; all or a first part, with
-- the counts before the closing line, of which one rose; where memory ran out, nothing, or all or a first part.
abbrev pub IsShown : Output → List ℕ → DumpEnd → Type 0
IsShown s text Done = Appends s.old s.new text × ((err : ℕ) × IsCalm s err)
IsShown s text (SinkFault out err) =
    IsPut s text × (out ≡ s.out_after) × (err ≤ s.err_after) × (Rose s.out_before out ⊎ Rose s.err_before err)
IsShown s text NoMemory = (s.new ≡ s.old) ⊎ IsPut s text
IsShown s text _ = ⊥

-- the listing of the object that the file's bytes spell was written so
pub record HasListed (told : Told) (path : List ℕ) (s : Output) (end : DumpEnd) : Type 0 where
  pub object : Object
  pub read : IsObjectAt told path object
  pub shown : IsShown s (listing_of object) end

-- why nothing is listed, by what the file is and whether the count of the files rose
abbrev pub IsUnlisted : Told → List ℕ → ℕ → ℕ → DumpEnd → Type 0
IsUnlisted told path before now (BadObject fault) = IsBadObjectAt told path fault
IsUnlisted told path before now (Unread true) = Lacks told path
IsUnlisted told path before now (Unread false) = Rose before now
IsUnlisted told path before now NoMemory = Unit {0}
IsUnlisted told path before now _ = ⊥

-- The file's object was listed; or there is a reason not to, and nothing was written.
abbrev pub IsDump : Told → List ℕ → ℕ → ℕ → Output → DumpEnd → Type 0
IsDump told path before now s end = HasListed told path s end ⊎ (IsUnlisted told path before now end × (s.new ≡ s.old))

-- what a dump of refused bytes ends as
abbrev pub unlisted : FileFault → DumpEnd
unlisted fault.NoMemory = NoMemory
unlisted (fault.Short at) = BadObject (fault.Short at)
unlisted (fault.Magic at) = BadObject (fault.Magic at)
unlisted (fault.Signed at) = BadObject (fault.Signed at)
unlisted (fault.BadOperand at) = BadObject (fault.BadOperand at)
unlisted (fault.BadOpcode at) = BadObject (fault.BadOpcode at)
unlisted (fault.BadType at) = BadObject (fault.BadType at)
unlisted (fault.BadData at) = BadObject (fault.BadData at)
unlisted (fault.BadLink at) = BadObject (fault.BadLink at)
unlisted (fault.Trailing at) = BadObject (fault.Trailing at)
unlisted (fault.BadFlags at) = BadObject (fault.BadFlags at)
