-- The arrays that the statements of a process fill, in each of its frames.
use Rattle.std.specs.Prelude.{ℕ, ◌≡◌, ◌⊎◌, List, [], ◌∷◌, Option}
use Rattle.styx_msg.specs.declared.message.Rmsg.{Rmsg}
use Rattle.process_model.specs.Process.{Went, Asks}
use Rattle.heap_model.specs.Heap.{Heap, stays}
use Rattle.system_model.specs.Prints.{Request}
use Rattle.limbo_typed.specs.Typed.{Module}
use Rattle.limbo_meaning.specs.Values.{references_in}
use Rattle.limbo_meaning.specs.Memory.{HeapValue, inside, Memory}
use Rattle.limbo_meaning.specs.Trees.{Stm, Eval, If, While, Return, Block, Then}
use Rattle.limbo_meaning.specs.Program.{Routine, Program}
use Rattle.limbo_meaning.specs.Process.{Shared, Frame, Process, memory_of}
use Rattle.limbo_meaning.specs.Step.{step, answer}
use Rattle.limbo_meaning.specs.Runs.{first_process}
use Rattle.limbo_meaning.specs.Origins.{Name, stm_references}
use Rattle.limbo_meaning.specs.Owning.{FreshProgram, FreshBlock, OwnProcess}
use Rattle.limbo_filling.specs.Filling.{Fills, FillsApart}
use Rattle.limbo_filling.specs.Laws.{IsBounded}

-- ---- the first statement of a frame, which alone is in evaluation

abbrev pub StmFills : Stm → ℕ → Type 0
StmFills (Eval t) n = Fills t n
StmFills (If t a b) n = Fills t n
StmFills (While t l) n = Fills t n
StmFills (Return t) n = Fills t n
StmFills _ n = ⊥

abbrev pub BlockFills : Block → ℕ → Type 0
BlockFills (Then s rest) n = StmFills s n
BlockFills _ n = ⊥

abbrev pub StmFillsApart : Memory → Stm → Type 0
StmFillsApart m (Eval t) = FillsApart m t
StmFillsApart m (If t a b) = FillsApart m t
StmFillsApart m (While t l) = FillsApart m t
StmFillsApart m (Return t) = FillsApart m t
StmFillsApart m _ = Unit {0}

abbrev pub BlockFillsApart : Memory → Block → Type 0
BlockFillsApart m (Then s rest) = StmFillsApart m s
BlockFillsApart m _ = Unit {0}

abbrev pub block_references : Block → List (Option ℕ)
block_references (Then s rest) = stm_references s
block_references _ = []

-- ---- frames

abbrev pub memory_in : Heap HeapValue → Frame → Memory
memory_in h f = record { variables = f.variables; instance = f.instance; heap = h }

-- A frame's variables, or the tree of its statement, name n.
abbrev pub FrameNames : Frame → ℕ → Type 0
FrameNames f n = Name (references_in f.variables) n ⊎ Name (block_references f.todo) n

abbrev pub FrameApart : Heap HeapValue → Frame → Type 0
FrameApart h f = BlockFillsApart (memory_in h f) f.todo

-- Frames that wait: none of those above one names what it fills.
abbrev pub FramesApart : Heap HeapValue → (Above : ℕ → Type 0) → List Frame → Type 0
FramesApart h Above [] = Unit {0}
FramesApart h Above (f ∷ fs) =
    FrameApart h f × ((n : ℕ) → BlockFills f.todo n → Above n → ⊥) × FramesApart h (λ n. Above n ⊎ FrameNames f n) fs

-- What the statements of a process fill is named by nothing else that they can come to.
pub record ProcessApart (h : Heap HeapValue) (p : Process) : Type 0 where
  pub frame : FrameApart h p.frame
  pub below : FramesApart h (FrameNames p.frame) p.below

-- ---- what keeps it

pub record ProcessesStayApart : Type 0 where
  -- the process that a module begins with fills nothing yet
  pub first : (m : Module) (words : List (List ℕ)) (r : Routine) (h : Heap HeapValue) → FreshBlock r.body →
      ProcessApart h (first_process m words r)
  -- steps
  pub goes : (limit : ℕ) (program : Program) → FreshProgram program → (w v : Shared) (p q : Process) → OwnProcess p →
      IsBounded (memory_of w p.frame) → ProcessApart w.heap p → step limit program w p ≡ Went v q → ProcessApart v.heap q
  pub asks : (limit : ℕ) (program : Program) → FreshProgram program → (w v : Shared) (p q : Process) (r : Request) → OwnProcess p →
      ProcessApart w.heap p → step limit program w p ≡ Asks v r q → ProcessApart v.heap q
  -- replies
  pub hears : (a : Rmsg) (w v : Shared) (p q : Process) → ProcessApart w.heap p → answer a w p ≡ Went v q → ProcessApart v.heap q
  pub asks_again : (a : Rmsg) (w v : Shared) (p q : Process) (r : Request) → ProcessApart w.heap p → answer a w p ≡ Asks v r q →
      ProcessApart v.heap q
  -- what goes of the heap
  pub cuts : (roots : ℕ → ℕ) (h : Heap HeapValue) (p : Process) → ProcessApart h p → ProcessApart (stays inside roots h) p
