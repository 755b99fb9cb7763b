-- A process holds what its trees name: so it is at the opening of a run, and so it stays.
use Rattle.std.specs.Prelude.{ℕ, ◌≡◌, false, List, [], ◌∷◌, Option, None, Some, slice_get}
use Rattle.styx_msg.specs.declared.message.Rmsg.{Rmsg}
use Rattle.process_model.specs.Process.{Went, Asks}
use Rattle.limbo_typed.specs.Typed.{Module}
use Rattle.system_model.specs.Prints.{Request}
use Rattle.limbo_meaning.specs.Trees.{Term, Stm, Eval, If, While, Enter, Return}
use Rattle.limbo_meaning.specs.Trees.{Loop, Looping, Block, Done, Then, Turn, Again}
use Rattle.limbo_meaning.specs.Program.{Routine, Program, program_of}
use Rattle.limbo_meaning.specs.Process.{Shared, Frame, Process}
use Rattle.limbo_meaning.specs.Step.{step, answer}
use Rattle.limbo_meaning.specs.Runs.{first_process}
use Rattle.limbo_meaning.specs.Holding.{is_evaluated}
use Rattle.limbo_meaning.specs.Origins.{Name, term_references, TreeIsHeld}

-- ---- what isn't begun names nothing

abbrev pub IsFresh : Term → Type 0
IsFresh t = (n : ℕ) → Name (term_references t) n → ⊥

abbrev pub IsFreshIf : Option Term → Type 0
IsFreshIf None = Unit {0}
IsFreshIf (Some t) = IsFresh t

abbrev mutual
  pub FreshStm : Stm → Type 0
  FreshStm (Eval t) = IsFresh t
  FreshStm (If t a b) = IsFresh t × FreshBlock a × FreshBlock b
  FreshStm (While t l) = IsFresh t × FreshLoop l
  FreshStm (Enter l) = FreshLoop l
  FreshStm (Return t) = IsFresh t
  FreshStm _ = Unit {0}

  pub FreshLoop : Loop → Type 0
  FreshLoop (Looping c n body) = IsFreshIf c × IsFreshIf n × FreshBlock body

  pub FreshBlock : Block → Type 0
  FreshBlock Done = Unit {0}
  FreshBlock (Then s b) = FreshStm s × FreshBlock b
  FreshBlock (Turn l b) = FreshLoop l × FreshBlock b
  FreshBlock (Again l b) = FreshLoop l × FreshBlock b

abbrev pub FreshProgram : Program → Type 0
FreshProgram program = (f : ℕ) (r : Routine) → slice_get program.routines f ≡ Some r → FreshBlock r.body

-- ---- what is begun names what is held

-- All that a tree names is among these words. A value at the end of a statement isn't used as a reference any more.
abbrev pub Within : List (Option ℕ) → Term → Type 0
Within held t = (n : ℕ) → Name (term_references t) n → Name held n

abbrev pub WithinUnlessValue : List (Option ℕ) → Term → Type 0
WithinUnlessValue held t = is_evaluated t ≡ false → Within held t

abbrev pub OwnStm : List (Option ℕ) → Stm → Type 0
OwnStm held (Eval t) = WithinUnlessValue held t
OwnStm held (If t a b) = WithinUnlessValue held t × FreshBlock a × FreshBlock b
OwnStm held (While t l) = WithinUnlessValue held t × FreshLoop l
OwnStm held (Enter l) = FreshLoop l
OwnStm held (Return t) = Within held t
OwnStm held _ = Unit {0}

-- Only the first statement of a frame is begun.
abbrev pub OwnBlock : List (Option ℕ) → Block → Type 0
OwnBlock held (Then s rest) = OwnStm held s × FreshBlock rest
OwnBlock held b = FreshBlock b

abbrev pub OwnFrame : Frame → Type 0
OwnFrame f = OwnBlock f.held f.todo

abbrev pub OwnFrames : List Frame → Type 0
OwnFrames [] = Unit {0}
OwnFrames (f ∷ fs) = OwnFrame f × OwnFrames fs

pub record OwnProcess (p : Process) : Type 0 where
  pub frame : OwnFrame p.frame
  pub below : OwnFrames p.below

-- The process that a run begins with holds what its tree names; each step keeps that, and each reply; and that is what `names_come_from`
-- asks for.
pub record ProcessesOwn : Type 0 where
  pub modules : (m : Module) → FreshProgram (program_of m)
  pub first : (m : Module) (words : List (List ℕ)) (r : Routine) → FreshBlock r.body → OwnProcess (first_process m words r)
  pub goes : (limit : ℕ) (program : Program) → FreshProgram program → (w v : Shared) (p q : Process) → OwnProcess p →
      step limit program w p ≡ Went v q → OwnProcess q
  pub asks : (limit : ℕ) (program : Program) → FreshProgram program → (w v : Shared) (p q : Process) (m : Request) → OwnProcess p →
      step limit program w p ≡ Asks v m q → OwnProcess q
  pub hears : (a : Rmsg) (w v : Shared) (p q : Process) → OwnProcess p → answer a w p ≡ Went v q → OwnProcess q
  pub asks_again : (a : Rmsg) (w v : Shared) (p q : Process) (m : Request) → OwnProcess p → answer a w p ≡ Asks v m q → OwnProcess q
  pub held : (p : Process) → OwnProcess p → TreeIsHeld p
