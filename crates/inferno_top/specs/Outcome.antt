-- What each cause of an end says: of the words, of the files as they are told, and of which counts of faults rose.
use Rattle.std.specs.Prelude.{ℕ, ◌≡◌, ◌≤◌, ◌⊎◌, List, Option, None, Some, Bool, true, false}
use Rattle.inf_ports.specs.Outside.{Told, Lacks, Rose}
use Rattle.dis_file.specs.declared.object.Object.{Object}
use Rattle.limbo_typed.specs.Typed.{Module}
use Rattle.dis_machine.specs.declared.event.Journal.{Journal}
use Rattle.limbo_tree.specs.Sources.{Source}
use Rattle.source_modules.specs.Checked.{IsOther}
use Rattle.declared_signs.specs.Declared.{HasClash}
use Rattle.inferno_top.specs.Built.{HasTree, IsBuilt, IsClashing, IsSourceFor}
use Rattle.inferno_top.specs.Reading.{IsRead, IsFaulty, IsWanted, HasClashAt}
use Rattle.inferno_top.specs.Faults.{IsFault}
use Rattle.inferno_top.specs.Running.{IsRun}
use Rattle.inferno_command.specs.Words.{named_file, limit_of, compiled_file}
use Rattle.inferno_top.specs.declared.cause.Aim.{Aim}
use Rattle.inferno_top.specs.declared.cause.Aim.TheVariants.{Run, Write}
use Rattle.inferno_top.specs.declared.cause.Cause.{Cause}
use Rattle.inferno_top.specs.declared.cause.Cause.TheVariants.{Done, Broke, Usage, BadSource, Clashing, BadObject, Limit, Host, SinkFault}
use Rattle.inferno_top.specs.declared.cause.Cause.TheVariants.{NoMemory}

-- a command's words, what its files tell, and the counts of faults before and after it
pub record Course : Type 0 where
  pub words : List (List ℕ)
  pub told : Told
  pub files_before : ℕ
  pub files_after : ℕ
  pub out_before : ℕ
  pub out_after : ℕ
  pub err_before : ℕ
  pub err_after : ℕ

-- the words name this file, whose source is a program of the part that runs, which is this typed module
pub record IsAccepted (words : List (List ℕ)) (told : Told) (file : List ℕ) (m : Module) : Type 0 where
  pub named : named_file words ≡ Some file
  pub read : IsRead Run told file m

-- the words name a file whose source is some program of the part that runs
pub record HasProgram (words : List (List ℕ)) (told : Told) : Type 0 where
  pub file : List ℕ
  pub program : Module
  pub accepted : IsAccepted words told file program

-- what was run is a program that the words name, and this is its run, for at most the quanta that they say
pub record HasRun (words : List (List ℕ)) (told : Told) (journal : Option Journal) (objects : List (List ℕ × Object))
    (old new : Option (List ℕ)) (faults_before faults_after : ℕ) (cause : Cause) : Type 0 where
  pub file : List ℕ
  pub program : Module
  pub accepted : IsAccepted words told file program
  pub run : IsRun (limit_of words) file program journal objects old new faults_before faults_after cause

-- the files tell what stands at the path: these bytes, or no file
abbrev pub Tells : Told → List ℕ → Option (List ℕ) → Type 0
Tells None path bytes = ⊥
Tells (Some files) path bytes = files path ≡ bytes

-- the words name this file to be compiled: to be run, or for its object to be written
abbrev pub AsksFor : Aim → List (List ℕ) → List ℕ → Type 0
AsksFor Run words file = named_file words ≡ Some file
AsksFor Write words file = (out : List ℕ) × (compiled_file words ≡ Some (file, out))

-- the words name a file of which the files tell that its source is a program, which is this typed module
pub record TellsProgram (aim : Aim) (words : List (List ℕ)) (told : Told) (m : Module) : Type 0 where
  pub file : List ℕ
  pub named : AsksFor aim words file
  pub source : List ℕ
  pub tells : Tells told file (Some source)
  pub built : IsBuilt aim told file source m

-- the words name a file of which the files tell that its source is checked, and is this module, which it can be for what it's compiled for
pub record TellsSource (aim : Aim) (words : List (List ℕ)) (told : Told) (checked : Module) : Type 0 where
  pub file : List ℕ
  pub named : AsksFor aim words file
  pub source : List ℕ
  pub tells : Tells told file (Some source)
  pub is : IsSourceFor aim told file source checked

-- the same of a file to be run, whose module doesn't declare `init` as a first one has to
pub record TellsOther (words : List (List ℕ)) (told : Told) (checked : Module) : Type 0 where
  pub file : List ℕ
  pub named : named_file words ≡ Some file
  pub source : List ℕ
  pub tells : Tells told file (Some source)
  pub tree : Source
  pub has : HasTree source tree
  pub other : IsOther told file tree checked

-- where a command is refused before it runs
abbrev pub IsRefusal : List (List ℕ) → Told → ℕ → ℕ → Cause → Type 0
IsRefusal words told before after Usage = named_file words ≡ None
IsRefusal words told before after (BadSource file fault) =
    (path : List ℕ) × (named_file words ≡ Some path) × IsFaulty Run told path file fault
IsRefusal words told before after (Clashing c) = (path : List ℕ) × (named_file words ≡ Some path) × HasClashAt Run told path c
IsRefusal words told before after (Host path true) = (named_file words ≡ Some path) × Lacks told path
IsRefusal words told before after (Host file false) =
    (path : List ℕ) × (named_file words ≡ Some path) × IsWanted told path file × Rose before after
IsRefusal words told before after NoMemory = Unit {0}
IsRefusal words told before after _ = ⊥

-- no count of output rose
abbrev pub IsCalm : (before after err_before err : ℕ) → Type 0
IsCalm before after err_before err = (Rose before after → ⊥) × (Rose err_before err → ⊥)

-- How a run ends: by itself where no count of output rose, or a write of output failed, or memory ran out.
abbrev pub IsRunEnd : ℕ → ℕ → ℕ → Cause → Type 0
IsRunEnd before after err_count Done = IsCalm before after err_count err_count
IsRunEnd before after err_count (Broke broken) = IsCalm before after err_count err_count
IsRunEnd before after err_count (Limit quanta) = IsCalm before after err_count err_count
IsRunEnd before after err_count (SinkFault out err) =
    (out ≡ after) × (err ≡ err_count) × (Rose before after ⊎ Rose err_count err_count)
IsRunEnd before after err_count NoMemory = Unit {0}
IsRunEnd before after err_count _ = ⊥

-- the words name a program, and no count of output rose before the closing line was written
abbrev pub EndsByItself : Course → Type 0
EndsByItself c = HasProgram c.words c.told × ((err : ℕ) × (err ≤ c.err_after) × IsCalm c.out_before c.out_after c.err_before err)

-- Where each cause comes. Of those of a run's end want of memory comes first, and then a count of output that rose before
-- the closing line was written. How the others end is said of the run itself.
abbrev pub IsCause : Course → Cause → Type 0
IsCause c Done = EndsByItself c
IsCause c (Broke broken) = EndsByItself c
IsCause c (Limit quanta) = EndsByItself c
IsCause c (SinkFault out err) =
    HasProgram c.words c.told
    × (out ≡ c.out_after) × (err ≤ c.err_after) × (Rose c.out_before out ⊎ Rose c.err_before err)
IsCause c cause = IsRefusal c.words c.told c.files_before c.files_after cause

-- the cause is this one, or want of memory
abbrev pub IsUnlessMemory : Cause → Cause → Type 0
IsUnlessMemory cause wanted = (cause ≡ wanted) ⊎ (cause ≡ NoMemory)

-- the cause is a refusal that the source has, or want of memory
abbrev pub IsSourceRefusal : Aim → Told → List ℕ → List ℕ → Cause → Type 0
IsSourceRefusal aim told path source (BadSource file fault) = IsFault aim told path source file fault
IsSourceRefusal aim told path source (Clashing c) = (m : Module) × IsClashing aim told path source m c
IsSourceRefusal aim told path source NoMemory = Unit {0}
IsSourceRefusal aim told path source _ = ⊥

-- the cause is the clash of the module's functions, or want of memory
abbrev pub IsClashOf : Module → Cause → Type 0
IsClashOf m (Clashing c) = HasClash m c
IsClashOf m NoMemory = Unit {0}
IsClashOf m _ = ⊥

-- the run ended by itself, or memory ran out
abbrev pub IsEndUnlessMemory : Cause → Type 0
IsEndUnlessMemory Done = Unit {0}
IsEndUnlessMemory (Broke broken) = Unit {0}
IsEndUnlessMemory (Limit quanta) = Unit {0}
IsEndUnlessMemory NoMemory = Unit {0}
IsEndUnlessMemory _ = ⊥

-- the command ended before a program ran
abbrev pub IsUnrun : Cause → Type 0
IsUnrun Usage = Unit {0}
IsUnrun (BadSource file fault) = Unit {0}
IsUnrun (Clashing c) = Unit {0}
IsUnrun (BadObject file fault) = Unit {0}
IsUnrun (Host path missing) = Unit {0}
IsUnrun _ = ⊥

-- the program was run until its end
abbrev pub is_run_out : Cause → Bool
is_run_out Done = true
is_run_out (Broke broken) = true
is_run_out (Limit quanta) = true
is_run_out (SinkFault out err) = true
is_run_out _ = false

-- a write of output failed
abbrev pub IsSinkFault : Cause → Type 0
IsSinkFault (SinkFault out err) = Unit {0}
IsSinkFault _ = ⊥

-- memory ran out
abbrev pub lacks_memory : Cause → Bool
lacks_memory NoMemory = true
lacks_memory _ = false
