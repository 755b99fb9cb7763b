-- Three-address code, as plain data: instructions on places, each of which holds a whole value.
use Rattle.std.specs.Prelude.{ℕ, ℤ, List, Option}
use Rattle.limbo_values.specs.declared.number.Kind.{Kind}
use Rattle.limbo_values.specs.declared.operator.Comparison.{Comparison}
use Rattle.limbo_typed.specs.declared.operation.Operation.{Operation}
use Rattle.limbo_typed.specs.declared.print.Piece.{Piece}

-- Where a value goes: into a variable of the function or of the module; into a temporary, of which each kind of number has its own; or
-- among the arguments of the call that is being made ready. Each holds a number of this kind.
pub data Spot : Type 0 where
  Variable : Kind → (number : ℕ) → Spot
  Global : Kind → (number : ℕ) → Spot
  Temporary : Kind → (number : ℕ) → Spot
  Argument : Kind → (number : ℕ) → Spot

-- What an instruction takes: what such a place holds, or a number.
pub data Operand : Type 0 where
  In : Spot → Operand
  Number : ℤ → Operand

pub data Inst : Type 0 where
  -- a place gets a value, which is a step of the program, or hands on what was got already; what an operation gives of one value, or of two
  Move : (into : Spot) → (from : Operand) → Inst
  Hand : (into : Spot) → (from : Operand) → Inst
  Alter : Operation → (into : Spot) → (of : Operand) → Inst
  Operate : Operation → (into : Spot) → (left right : Operand) → Inst
  -- so many instructions are passed where a comparison of two numbers of a kind holds; always, as a step of the program or as none; or
  -- control goes so many back
  Branch : Kind → Comparison → (left right : Operand) → (passes : ℕ) → Inst
  Jump : (passes : ℕ) → Inst
  Skip : (passes : ℕ) → Inst
  Back : (by : ℕ) → Inst
  -- a call of a function is made ready, and is made, with so many arguments that it was given; the answer, of this kind, goes to a place
  Begin : (function : ℕ) → Inst
  Call : Kind → (function arguments : ℕ) → (into : Spot) → Inst
  -- a print by this format is made ready, and is made
  Format : List Piece → Inst
  Print : (arguments : ℕ) → (into : Spot) → Inst
  -- the function ends, and answers a value, or 0
  Return : (value : Operand) → Inst
  Leave : Inst

-- A function: its name; of which kind each of its variables is, and none for one that refers, which no instruction names; how many of
-- them, the first, are parameters; of which kind its answer is; and its instructions.
pub record Function : Type 0 where
  pub name : List ℕ
  pub variables : List (Option Kind)
  pub parameters : ℕ
  pub answer : Kind
  pub code : List Inst

-- A variable of the module: of which kind it is, none for one that refers, and what it begins with.
pub record GlobalVariable : Type 0 where
  pub kind : Option Kind
  pub initial : ℤ

-- A module: its name, its variables and its functions.
pub record Module : Type 0 where
  pub name : List ℕ
  pub globals : List GlobalVariable
  pub functions : List Function
