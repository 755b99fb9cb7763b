-- What a run leaves: its journal, the objects that it was started with, the bytes on the output, and what all of it means.
use Rattle.std.specs.Prelude.{◌≡◌, ◌≢◌, ℕ, List, [], ◌∷◌, map, codes, Option, None, Some, slice_get}
use Rattle.dis_file.specs.declared.object.Object.{Object}
use Rattle.dis_format.specs.Objects.{IsValid, Spells, written_form}
use Rattle.limbo_typed.specs.Typed.{Function, Module}
use Rattle.typed_meaning.specs.Program.{Routine}
use Rattle.dis_meaning.specs.Opening.{StringsSpell}
use Rattle.code_sim.specs.Keeps.{object_for, BeginsWith}
use Rattle.dis_machine.specs.declared.event.Journal.{Journal}
use Rattle.dis_machine.specs.declared.end.End.{End}
use Rattle.dis_machine.specs.declared.end.End.TheVariants as end
use Rattle.dis_machine.specs.declared.machine.Machine.{Machine}
use Rattle.dis_machine.specs.Journal.{State}
use Rattle.dis_machine.specs.Ends.{breaches}
use Rattle.dis_machine.specs.Kept.{view_broken}
use Rattle.dis_machine.specs.Standing.{HasBegun}
use Rattle.machine_host.specs.Conversation.{Conversation}
use Rattle.limbo_compiler.specs.Means.{Means}
use Rattle.inferno_top.specs.Built.{HasObject}
use Rattle.inferno_top.specs.declared.cause.Aim.{Aim}
use Rattle.inferno_top.specs.declared.cause.Aim.TheVariants.{Run}
use Rattle.inferno_top.specs.declared.cause.Cause.{Cause}
use Rattle.inferno_top.specs.declared.cause.Cause.TheVariants.{Done, Broke, Limit, SinkFault, NoMemory}
use Rattle.inferno_command.specs.Base.{base_name}

-- the module's function of this number is called `init`
pub record Beginning (m : Module) (init : ℕ) : Type 0 where
  pub function : Function
  pub there : slice_get m.functions init ≡ Some function
  pub named : function.name ≡ codes "init"

-- The object of a module that has one: it's valid, so some bytes spell it.
pub record IsMade (aim : Aim) (m : Module) (o : Object) : Type 0 where
  pub has : HasObject aim m
  pub same : o ≡ object_for m
  pub spelled : StringsSpell o
  pub valid : IsValid o

-- The same of a module that is to be run, and where its runs begin.
pub record IsCompiled (m : Module) (o : Object) : Type 0 where
  pub made : IsMade Run m o
  pub init : ℕ
  pub begins : Beginning m init
  pub first : Routine
  pub enters : BeginsWith m init first

-- an end that a run of a program can have
abbrev pub IsOwnEnd : End → Type 0
IsOwnEnd end.Done = Unit {0}
IsOwnEnd end.Broke = Unit {0}
IsOwnEnd end.Limit = Unit {0}
IsOwnEnd end.NoMemory = Unit {0}
IsOwnEnd _ = ⊥

-- What the cause says of a run that ended so, in the state that its journal leads to: which processes broke and with what text, in
-- order; how many quanta the limit is. Where a write of output failed, memory didn't run out.
abbrev pub Says : (limit : ℕ) → State → End → Cause → Type 0
Says limit t how Done = how ≡ end.Done
Says limit t how (Broke broken) = (how ≡ end.Broke) × (map view_broken broken.items ≡ breaches t.trace)
Says limit t how (Limit quanta) = (how ≡ end.Limit) × (quanta ≡ limit)
Says limit t how (SinkFault out err) = how ≢ end.NoMemory
Says limit t how NoMemory = Unit {0}
Says limit t how _ = ⊥

-- The run of a module that this journal is of, for at most so many quanta. The journal, the requests, the console's replies and the
-- output's bytes are a conversation, which leads to some state and ended so; beside it there is a run of the module from its function
-- `init`, at the pace, of which the same was told: requests, replies and how each process ended; and the cause says how it ended.
pub record RunOf (limit : ℕ) (m : Module) (journal : Journal) (old new : Option (List ℕ)) (faults_before faults_after : ℕ)
    (cause : Cause) : Type 0 where
  pub state : State
  pub how : End
  pub conversation : Conversation (object_for m ∷ []) limit journal.events state old new faults_before faults_after how
  pub init : ℕ
  pub begins : Beginning m init
  pub means : Means m init journal.events state
  pub says : Says limit state how cause

-- no machine was started: nothing was written, and there is no journal
pub record NothingRan (journal : Option Journal) (objects : List (List ℕ × Object)) (old new : Option (List ℕ)) : Type 0 where
  pub unstarted : journal ≡ None
  pub none : objects ≡ []
  pub unwritten : new ≡ old

-- The objects are one, under the file's base name: the one that the written form of the module's object spells.
pub record AreObjectsOf (path : List ℕ) (m : Module) (objects : List (List ℕ × Object)) : Type 0 where
  pub object : Object
  pub named : objects ≡ (base_name path, object) ∷ []
  pub spelled : Spells object (written_form (object_for m))

-- A run of the module of the file at the path, for at most so many quanta. Where a machine was started, the objects are the file's base
-- name and what the bytes of the module's object spell; where none was, memory ran out.
abbrev pub IsRun : (limit : ℕ) → List ℕ → Module → Option Journal → List (List ℕ × Object) → Option (List ℕ) → Option (List ℕ) → ℕ → ℕ
    → Cause → Type 0
IsRun limit path m None objects old new faults_before faults_after cause = NothingRan None objects old new × (cause ≡ NoMemory)
IsRun limit path m (Some journal) objects old new faults_before faults_after cause =
    AreObjectsOf path m objects × RunOf limit m journal old new faults_before faults_after cause

-- a machine that was started, under the file's base name, on what the bytes of the object spell, for at most so many quanta
pub record IsStarted (quanta : ℕ) (path : List ℕ) (o : Object) (machine : Machine) : Type 0 where
  pub read : Object
  pub spelled : Spells read (written_form o)
  pub same : read ≡ o
  pub begun : HasBegun ((base_name path, read) ∷ []) quanta machine

-- how a run ends, before the counts of faults are looked at
abbrev pub IsOwnCause : Cause → Type 0
IsOwnCause Done = Unit {0}
IsOwnCause (Broke broken) = Unit {0}
IsOwnCause (Limit quanta) = Unit {0}
IsOwnCause NoMemory = Unit {0}
IsOwnCause _ = ⊥
