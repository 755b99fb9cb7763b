-- In a run of a module of the part an operation is only ever applied to numbers such as it takes, and a function called with such.
use Rattle.std.specs.Prelude.{ℕ, ◌≡◌, true, List, [], ◌∷◌, map, Option, None, Some, slice_get}
use Rattle.process_model.specs.Process.{Ready}
use Rattle.process_model.specs.Source.{Turn}
use Rattle.limbo_values.specs.declared.number.Kind.{Kind}
use Rattle.limbo_values.specs.Numbers.{InRange}
use Rattle.limbo_typed.specs.Typed.{Function, Module}
use Rattle.system_model.specs.Values.{Value, Num}
use Rattle.typed_meaning.specs.Values.{kind_of}
use Rattle.typed_meaning.specs.Trees.{Place, Term, Stm, Eval, Set, If, While, Return, Block, Then}
use Rattle.typed_meaning.specs.World.{World}
use Rattle.typed_meaning.specs.Evaluation.{Progress, Calls, next}
use Rattle.typed_meaning.specs.Breaks.{Applied, applied_by}
use Rattle.typed_meaning.specs.Process.{Process, reads}
use Rattle.typed_meaning.specs.Runs.{Meaning, MeaningRun}
use Rattle.typed_part.specs.Part.{operands, is_part}

-- ---- numbers of kinds

-- A number of a kind; and as many numbers as kinds, each of its kind.
abbrev pub IsOf : Kind → Value → Type 0
IsOf k (Num z) = InRange k z

abbrev pub AreOf : List Kind → List Value → Type 0
AreOf [] [] = Unit {0}
AreOf (k ∷ ks) (v ∷ vs) = IsOf k v × AreOf ks vs
AreOf _ _ = ⊥

-- ---- the call that comes next

-- A function, and what it is called with.
pub record Called : Type 0 where
  pub function : ℕ
  pub arguments : List Value

abbrev pub called_in : Progress Value Term → Option Called
called_in (Calls f vs t) = Some (record { function = f; arguments = vs })
called_in _ = None

abbrev pub called_by_stm : (Place → Value) → Stm → Option Called
called_by_stm reads (Eval t) = called_in (next reads t)
called_by_stm reads (Set ps t) = called_in (next reads t)
called_by_stm reads (If t a b) = called_in (next reads t)
called_by_stm reads (While t l) = called_in (next reads t)
called_by_stm reads (Return t) = called_in (next reads t)
called_by_stm reads _ = None

abbrev pub called_by_block : (Place → Value) → Block → Option Called
called_by_block reads (Then s rest) = called_by_stm reads s
called_by_block reads _ = None

-- What a process is to call next, if its next step is a call.
abbrev pub called_by : World → Process → Option Called
called_by w p = called_by_block (reads w p.frame) p.frame.todo

-- ---- what fits

-- An operation and such operands as it takes.
pub record Takes (a : Applied) : Type 0 where
  pub kinds : List Kind
  pub taken : operands a.operation ≡ Some kinds
  pub given : AreOf kinds a.operands

-- A function of the module, and as many numbers as it has parameters, each of the kind of its parameter.
pub record Passes (functions : List Function) (c : Called) : Type 0 where
  pub function : Function
  pub there : slice_get functions c.function ≡ Some function
  pub given : AreOf (map kind_of function.of.args) c.arguments

-- So it is with what any process is to do next, at any moment of a run.
abbrev pub OperandsFit : Type 0
OperandsFit =
    (m : Module) → is_part m ≡ true → (init : ℕ) (turns : List Turn) (c : Meaning) → MeaningRun m init turns c
    → (i : ℕ) (p : Process) → slice_get c.processes i ≡ Some (Ready p)
    → (a : Applied) → applied_by c.world p ≡ Some a → Takes a

abbrev pub ArgumentsFit : Type 0
ArgumentsFit =
    (m : Module) → is_part m ≡ true → (init : ℕ) (turns : List Turn) (c : Meaning) → MeaningRun m init turns c
    → (i : ℕ) (p : Process) → slice_get c.processes i ≡ Some (Ready p)
    → (called : Called) → called_by c.world p ≡ Some called → Passes m.functions called
