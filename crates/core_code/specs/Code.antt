-- Three-address code over whole values, between the compiler's two passes.
use Rattle.std.specs.Prelude.{ℕ, ℤ, List, Option}
use Rattle.limbo_types.specs.Types.{Ty}
use Rattle.limbo_layout.specs.Adts.{Def}
use Rattle.limbo_typed.specs.declared.operation.Connective.{Connective}
use Rattle.limbo_typed.specs.declared.print.Piece.{Piece}
use Rattle.limbo_meaning.specs.Values.{Value}
use Rattle.limbo_meaning.specs.Places.{Way}
use Rattle.limbo_meaning.specs.Trees.{Work}

-- Instructions name slots by numbers; a jump says how many instructions it passes. Each does what a step of a tree does, or none.
pub data Instr : Type 0 where
  -- a node whose operands stand in slots gives its value into its own: an operation, a read, a constant, a part, a new channel, a text
  Give : Ty → Work → (into : ℕ) → (from : List ℕ) → Instr
  -- an operand, by its number, moves to what a value of a type, of this variant of an adt, is put together of in a slot; its place there is
  -- the part of another number. The slot that it comes from is empty then
  Place : Ty → (variant : Option ℕ) → (operand part : ℕ) → (into from : ℕ) → Instr
  -- a node gives its value, a tuple or an adt, of so many operands that are there
  Gather : Ty → Work → (into : ℕ) → (operands : ℕ) → Instr
  -- a part of a value moves: where it comes from its references are nothing then
  Pick : Ty → (part : ℕ) → (into from : ℕ) → Instr
  -- a value is there that no step of a tree gives: the length of an array that isn't written
  Known : Value → (into : ℕ) → Instr
  -- one write: of this part of a slot's value to the place with these operands
  Write : Ty → Way → (operands : List ℕ) → (part : List ℕ) → (from : ℕ) → Instr
  CopyInto : (array start from : ℕ) → Instr
  -- a cell of a list, in front of the one in a slot, or of nothing
  Cell : Ty → (into item : ℕ) → (behind : Option ℕ) → Instr
  -- a call, and a print: their operands are put together in a slot, where there are any, and stay there as a tuple
  Call : Ty → (function : ℕ) → (into : ℕ) → (operands : Option ℕ) → Instr
  Print : List Piece → (into : ℕ) → (operands : Option ℕ) → Instr
  -- a connective: whether its left operand decides goes into a slot of its own, where that is read again, and where it does, the value is
  -- there and so many instructions are passed; the truth of the right operand
  Skip : Connective → (into : ℕ) → (decision : Option ℕ) → (from passes : ℕ) → Instr
  Truth : (into from : ℕ) → Instr
  -- a new array's element is stored
  Element : Ty → (array : ℕ) → (index : ℤ) → (from : ℕ) → Instr
  -- the others of an initialiser begin: the loop's slot is at the first index, and nothing is in the chain of what the turns held; it goes
  -- on to the next index that isn't among these, or so many instructions are passed; an element is stored there; and again, so many back
  Start : (loop : ℕ) → Instr
  Next : (array loop : ℕ) → (named : List ℤ) → (passes : ℕ) → Instr
  Other : Ty → (array loop from : ℕ) → Instr
  -- a region goes to the end of a loop's chain, and is empty; the first region of it comes back, or so many instructions are passed
  Keep : (loop from words : ℕ) → Instr
  Take : (loop from words passes : ℕ) → Instr
  -- a reference of a slot's value goes; what was decided is read again: where the left operand decided, so many drops are passed
  Drop : (slot reference : ℕ) → Instr
  Mirror : (decision passes : ℕ) → Instr
  -- control
  Unless : (condition passes : ℕ) → Instr
  Jump : (passes : ℕ) → Instr
  Back : (steps : ℕ) → Instr
  Return : (from : Option ℕ) → Instr

-- A function: the types of its variables, how many slots it has, and its code.
pub record Function : Type 0 where
  pub variables : List Ty
  pub slots : ℕ
  pub code : List Instr

pub record Program : Type 0 where
  pub adts : List Def
  pub functions : List Function
