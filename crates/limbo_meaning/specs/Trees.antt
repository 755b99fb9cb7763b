-- Trees in evaluation: what is left to do of an expression, of a statement, and of a function's body.
use Rattle.std.specs.Prelude.{ℕ, ℤ, zero, suc, List, Option, None, Some}
use Rattle.limbo_types.specs.Types.{Ty}
use Rattle.limbo_typed.specs.declared.operation.Operation.{Operation}
use Rattle.limbo_typed.specs.declared.operation.Connective.{Connective}
use Rattle.limbo_typed.specs.declared.operation.Given.{Given}
use Rattle.limbo_typed.specs.declared.print.Piece.{Piece}
use Rattle.limbo_typed.specs.declared.stmt.Constant.{Constant}
use Rattle.limbo_meaning.specs.Values.{Part, Value}
use Rattle.limbo_meaning.specs.Places.{Way, Place}

-- A place that an assignment writes, and which part of the assigned value goes there.
pub record Aim : Type 0 where
  pub part : List ℕ
  pub type : Ty
  pub way : Way

-- A write that is still to be done.
pub record Pending : Type 0 where
  pub place : Place
  pub value : Value

-- What becomes of the values of all operands. A literal and `nil` have none. A read and an assignment have the operands of their places,
-- one place after the other, and an assignment has its value behind them. A copy has the array, where in it the copy begins, and what is
-- copied; a list its items; a call and a print their arguments.
pub data Work : Type 0 where
  Literal : Constant → Work
  Nil : Work
  Operate : Operation → Work
  Read : Way → Work
  Assign : List Aim → Work
  TakePart : (part : ℕ) → Work
  Copy : Work
  Link : Work
  NewChannel : Work
  Call : (function : ℕ) → Work
  Print : List Piece → Work
  Sprint : List Piece → Work

-- What is left of an expression. A part that is evaluated is its value; one that waits for the answer of a call, or of a request to the
-- outside, is Awaiting; what isn't in this part of the language is Missing. A Node has its type, what it does, and its operands.
mutual
  pub data Term : Type 0 where
    Evaluated : Value → Term
    Awaiting : Term
    Missing : Term
    Node : Ty → Work → Terms → Term
    -- `&&` and `||`; and one of these whose left operand doesn't decide
    Lazy : Connective → (left right : Term) → Term
    Deciding : (right : Term) → Term
    -- `p op= e`, `++` and `--`: the operands of the place are evaluated, and then it is read; its value is the first operand of the
    -- operation
    Update : Operation → Given → Ty → Way → (place others : Terms) → Term
    Change : Operation → Given → Place → Terms → Term
    -- writes that are left, and the value that the whole expression has
    Put : List Pending → (given : Value) → Term
    -- cells of a list, the last of which comes first, in front of those that are there
    Linking : Ty → (left : List Value) → (behind : Option ℕ) → Term
    -- an array of elements of a type: its length is evaluated; then each element that is written, and stored; then the one for each index
    -- that is left, if there is one, anew
    Fill : Ty → (length : Term) → Items → (rest : Terms) → Term
    Filling : Ty → Part → Items → (others : List ℕ) → (rest : Terms) → Term
    Turning : Ty → Part → (others : List ℕ) → (rest : Term) → Term
    Repeating : Ty → Part → (index : ℕ) → (others : List ℕ) → (rest now : Term) → Term

  pub data Terms : Type 0 where
    NoTerms : Terms
    MoreTerms : Term → Terms → Terms

  pub data Items : Type 0 where
    NoItems : Items
    MoreItems : (index : ℤ) → Term → Items → Items

-- What is left of a statement, and what is to be done after it. Over is a statement of which all is done but its end. While has the
-- condition in evaluation; Enter is a loop whose body begins at once. Turn stands where the body of a loop ends, in front of what follows
-- the loop; Again behind what is done between two turns.
mutual
  pub data Stm : Type 0 where
    Over : Stm
    Eval : Term → Stm
    If : Term → (then other : Block) → Stm
    While : (now : Term) → Loop → Stm
    Enter : Loop → Stm
    Break : (loops : ℕ) → Stm
    Continue : (loops : ℕ) → Stm
    Return : Term → Stm
    Leave : Stm

  -- A loop: its condition, where it has one, what is done between two turns, and its body.
  pub data Loop : Type 0 where
    Looping : (condition next : Option Term) → (body : Block) → Loop

  pub data Block : Type 0 where
    Done : Block
    Then : Stm → Block → Block
    Turn : Loop → Block → Block
    Again : Loop → Block → Block

-- One block, and then the other.
abbrev pub join : Block → Block → Block
join Done rest = rest
join (Then s b) rest = Then s (join b rest)
join (Turn l b) rest = Turn l (join b rest)
join (Again l b) rest = Again l (join b rest)

-- A loop from its next test on, in front of what follows it: without a condition its body begins at once. No body of a loop that isn't
-- begun stands there, so that each Turn is one of a loop around.
abbrev pub tested : Loop → Block → Block
tested (Looping None n body) rest = Then (Enter (Looping None n body)) rest
tested (Looping (Some c) n body) rest = Then (While c (Looping (Some c) n body)) rest

-- Its body, and then its next turn.
abbrev pub entered : Loop → Block → Block
entered (Looping c n body) rest = join body (Turn (Looping c n body) rest)

-- Behind the body: what is done between two turns, or else the next test.
abbrev pub turned : Loop → Block → Block
turned (Looping c None body) rest = tested (Looping c None body) rest
turned (Looping c (Some n) body) rest = Then (Eval n) (Again (Looping c (Some n) body) rest)

-- What is left behind a loop that so many loops stand within, and from the end of its body on.
abbrev pub behind : ℕ → Block → Block
behind n Done = Done
behind n (Then s b) = behind n b
behind n (Again l b) = behind n b
behind zero (Turn l b) = b
behind (suc n) (Turn l b) = behind n b

abbrev pub at_turn : ℕ → Block → Block
at_turn n Done = Done
at_turn n (Then s b) = at_turn n b
at_turn n (Again l b) = at_turn n b
at_turn zero (Turn l b) = Turn l b
at_turn (suc n) (Turn l b) = at_turn n b
