-- When a process is well-typed, and a configuration of many.
use Rattle.std.specs.Prelude.{ℕ, ◌≡◌, List, [], ◌∷◌, Option, None, Some, length, take, slice_get}
use Rattle.styx_msg.specs.declared.message.Rmsg.{Rmsg}
use Rattle.process_model.specs.Process.{Went, Parks, Polls, Spawns, Asks, Ends, Doing, Ready, Waiting, Asking, Gone}
use Rattle.process_model.specs.Source.{Turn, Steps, Hears, Matched}
use Rattle.limbo_types.specs.Types as ty
use Rattle.limbo_types.specs.Types.{Ty}
use Rattle.limbo_layout.specs.Adts.{Def}
use Rattle.limbo_meaning.specs.Values.{Value}
use Rattle.limbo_meaning.specs.Trees.{Term, Stm, Eval, If, While, Enter, Return, Loop, Looping, Block, Done, Then, Turn as TurnOf, Again}
use Rattle.limbo_meaning.specs.Program.{Routine, Program}
use Rattle.limbo_meaning.specs.Process.{Shared, Frame, Process, Does}
use Rattle.limbo_meaning.specs.Step.{step, answer}
use Rattle.limbo_meaning.specs.Rules.{rules, naming}
use Rattle.limbo_meaning.specs.Runs.{Meaning}
use Rattle.limbo_kept.specs.Values.{Store, Instances, AllAreOf}
use Rattle.limbo_kept.specs.Stores.{HeapIsOf, Grows}
use Rattle.limbo_kept.specs.Operating.{HasRoom}
use Rattle.limbo_kept.specs.Permitting.{Stores}
use Rattle.limbo_kept.specs.Trees.{Signature, Scope, TermIs}

-- ---- statements

module _ (s : Scope) (store : Store) (gives : Ty) where
  abbrev pub TermIfAny : Option Term → Type 0
  TermIfAny None = Unit {0}
  TermIfAny (Some e) = (t : Ty) × TermIs s store None e t

  abbrev pub TestIs : Option Term → Type 0
  TestIs None = Unit {0}
  TestIs (Some e) = TermIs s store None e ty.Int

  abbrev mutual
    -- Conditions are ints, and what is returned fits what the function gives. Only the first statement is in evaluation.
    pub StmIs : (waits : Option Ty) → Stm → Type 0
    StmIs w (Eval e) = (t : Ty) × TermIs s store w e t
    StmIs w (If e a b) = TermIs s store w e ty.Int × BlockIs None a × BlockIs None b
    StmIs w (While e l) = TermIs s store w e ty.Int × LoopIs l
    StmIs w (Enter l) = LoopIs l
    StmIs w (Return e) = TermIs s store w e gives
    StmIs w _ = Unit {0}

    pub LoopIs : Loop → Type 0
    LoopIs (Looping c n body) = TestIs c × TermIfAny n × BlockIs None body

    pub BlockIs : (waits : Option Ty) → Block → Type 0
    BlockIs w Done = Unit {0}
    BlockIs w (Then x b) = StmIs w x × BlockIs None b
    BlockIs w (TurnOf l b) = LoopIs l × BlockIs None b
    BlockIs w (Again l b) = LoopIs l × BlockIs None b

-- ---- functions

-- What a module declares: its adts, the types of its variables, and its functions; and what they may store.
pub record Outline : Type 0 where
  pub adts : List Def
  pub globals : List Ty
  pub signatures : List Signature
  pub stores : Stores

abbrev pub scope_of : Outline → List Ty → Scope
scope_of o variables = record {
  adts = o.adts;
  globals = o.globals;
  signatures = o.signatures;
  variables = variables;
  stores = o.stores;
}

abbrev pub AllHaveRooms : List Def → List Ty → Type 0
AllHaveRooms defs [] = Unit {0}
AllHaveRooms defs (t ∷ ts) = HasRoom defs t × AllHaveRooms defs ts

-- A function's parameters are its first variables, and its body is well-typed; no name is in it yet.
pub record RoutineIs (o : Outline) (g : Signature) (r : Routine) : Type 0 where
  pub variables : g.variables ≡ r.variables
  pub parameters : take (length g.takes) r.variables ≡ g.takes
  pub rooms : AllHaveRooms o.adts r.variables
  pub answer : HasRoom o.adts g.answer
  pub body : BlockIs (scope_of o r.variables) [] g.answer None r.body

pub record ProgramIs (o : Outline) (program : Program) : Type 0 where
  pub adts : program.adts ≡ o.adts
  pub routines : (f : ℕ) (g : Signature) (r : Routine) → slice_get o.signatures f ≡ Some g → slice_get program.routines f ≡ Some r →
      RoutineIs o g r

-- ---- processes

-- A function that is declared has variables of these types, and gives this.
pub record IsDeclared (o : Outline) (types : List Ty) (gives : Ty) : Type 0 where
  pub number : ℕ
  pub function : Signature
  pub there : slice_get o.signatures number ≡ Some function
  pub variables : function.variables ≡ types
  pub answer : function.answer ≡ gives

module _ (o : Outline) (store : Store) where
  pub record FrameIs (waits : Option Ty) (f : Frame) : Type 0 where
    pub types : List Ty
    pub gives : Ty
    pub declared : IsDeclared o types gives
    pub variables : AllAreOf o.adts store types f.variables
    pub instance : slice_get store f.instance ≡ Some Instances
    pub answer : HasRoom o.adts gives
    pub todo : BlockIs (scope_of o types) store gives waits f.todo

  -- Each frame below waits for what the one above it gives.
  abbrev pub BelowIs : (gives answer : Ty) → List Frame → Type 0
  BelowIs gives answer [] = Unit {0}
  BelowIs gives answer (f ∷ fs) = (gives ≡ answer) × ((is : FrameIs (Some answer) f) × BelowIs is.gives f.answer fs)

  pub record ProcessIs (waits : Option Ty) (p : Process) : Type 0 where
    pub frame : FrameIs waits p.frame
    pub below : BelowIs frame.gives p.frame.answer p.below

  -- What a print answers is waited for as an int.
  abbrev pub DoingIs : Doing Process Value → Type 0
  DoingIs (Ready p) = ProcessIs None p
  DoingIs (Waiting bs p) = ProcessIs None p
  DoingIs (Asking p) = ProcessIs (Some ty.Int) p
  DoingIs Gone = Unit {0}

-- A store says of the heap what each value is, and of all processes what they name.
pub record IsTyped (o : Outline) (c : Meaning) : Type 0 where
  pub store : Store
  pub heap : HeapIsOf o.adts o.globals store c.world.heap
  pub processes : (i : ℕ) (d : Doing Process Value) → slice_get c.processes i ≡ Some d → DoingIs o store d

-- It is well-typed, and of each name that a store knew its own store says the same.
pub record StaysTyped (o : Outline) (store : Store) (c : Meaning) : Type 0 where
  pub typed : IsTyped o c
  pub grows : Grows store typed.store

-- ---- one step

module _ (o : Outline) (store : Store) where
  pub record LeftSo (waits : Option Ty) (w : Shared) (p : Process) : Type 0 where
    pub later : Store
    pub grows : Grows store later
    pub heap : HeapIsOf o.adts o.globals later w.heap
    pub process : ProcessIs o later waits p

  -- A process never looks round, and starts none.
  abbrev pub EffectIs : Does → Type 0
  EffectIs (Went w p) = LeftSo None w p
  EffectIs (Asks w m p) = LeftSo (Some ty.Int) w p
  EffectIs (Parks w bs p) = LeftSo None w p
  EffectIs (Polls w bs p q) = ⊥
  EffectIs (Spawns w child p) = ⊥
  EffectIs (Ends w how) = HeapIsOf o.adts o.globals store w.heap

-- From a well-typed process each step leads to a well-typed one. So it is of many: each step of any process, each reply, and each run leads
-- from a well-typed configuration to a well-typed one, and what a name stands for never changes.
pub record TypesAreKept : Type 0 where
  pub step : (limit : ℕ) (o : Outline) (program : Program) → ProgramIs o program → (store : Store) (w : Shared) (p : Process) →
      HeapIsOf o.adts o.globals store w.heap → ProcessIs o store None p → EffectIs o store (step limit program w p)
  pub steps : (limit : ℕ) (o : Outline) (program : Program) → ProgramIs o program → (c e : Meaning) (i : ℕ) → (is : IsTyped o c) →
      Steps (rules limit program) naming c i e → StaysTyped o is.store e
  pub replies : (limit : ℕ) (o : Outline) (program : Program) → ProgramIs o program → (c e : Meaning) (i : ℕ) (a : Rmsg) →
      (is : IsTyped o c) →
      Hears (rules limit program) naming c i a e → StaysTyped o is.store e
  pub runs : (limit : ℕ) (o : Outline) (program : Program) → ProgramIs o program → (c e : Meaning) (turns : List Turn) →
      (is : IsTyped o c) →
      Matched (rules limit program) naming c turns e → StaysTyped o is.store e
