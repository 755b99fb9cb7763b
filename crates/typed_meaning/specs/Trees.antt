-- Trees in evaluation: what is left to do of an expression, of a statement, and of a function's body.
use Rattle.std.specs.Prelude.{ℕ, zero, suc, List, Option, None, Some}
use Rattle.limbo_types.specs.Types.{Ty}
use Rattle.limbo_typed.specs.declared.operation.Operation.{Operation}
use Rattle.limbo_typed.specs.declared.operation.Connective.{Connective}
use Rattle.limbo_typed.specs.declared.operation.Given.{Given}
use Rattle.limbo_typed.specs.declared.print.Piece.{Piece}
use Rattle.system_model.specs.Values.{Value}

-- What can be read and written: a variable of the function, or one of the module.
pub data PlaceNode : Type 0 where
  Local : (number : ℕ) → PlaceNode
  Global : (number : ℕ) → PlaceNode

pub data Place : Type 0 where
  At : Ty → PlaceNode → Place

-- What is left of an expression. A part that is evaluated is its value; one that waits for the answer of a call, or of a request to the
-- outside, is Awaiting, with the type that the answer has; what isn't in this part is Missing. Deciding is a connective whose left operand
-- doesn't decide. Change is an assignment with an operator, or `++` or `--`, whose first operand is the place's own value; Put is a write
-- of what is known already, with the value that the whole expression has.
mutual
  pub data Term : Type 0 where
    Evaluated : Value → Term
    Awaiting : Ty → Term
    Missing : Term
    Literal : Ty → Value → Term
    Read : Place → Term
    Apply : Operation → Terms → Term
    Lazy : Connective → (left right : Term) → Term
    Deciding : (right : Term) → Term
    Store : Place → Term → Term
    Change : Operation → Given → Place → Terms → Term
    Put : Place → (stored given : Value) → Term
    Call : Ty → (function : ℕ) → Terms → Term
    Print : List Piece → Terms → Term

  pub data Terms : Type 0 where
    NoTerms : Terms
    MoreTerms : Term → Terms → Terms

-- What is left of a statement, and what is to be done after it. Over is a statement of which all is done but its end. Set gives places a
-- value, one after the other. While has the condition in evaluation; Enter is a loop whose body begins at once. Turn stands where the body
-- of a loop ends, in front of what follows the loop; Again behind what is done between two turns.
mutual
  pub data Stm : Type 0 where
    Over : Stm
    Eval : Term → Stm
    Set : List Place → Term → Stm
    If : Term → (then other : Block) → Stm
    While : (now : Term) → Loop → Stm
    Enter : Loop → Stm
    Break : (loops : ℕ) → Stm
    Continue : (loops : ℕ) → Stm
    Return : Term → Stm
    Leave : Stm

  -- A loop: its condition, where it has one, what is done between two turns, and its body.
  pub data Loop : Type 0 where
    Looping : (condition next : Option Term) → (body : Block) → Loop

  pub data Block : Type 0 where
    Done : Block
    Then : Stm → Block → Block
    Turn : Loop → Block → Block
    Again : Loop → Block → Block

-- One block, and then the other.
abbrev pub join : Block → Block → Block
join Done rest = rest
join (Then s b) rest = Then s (join b rest)
join (Turn l b) rest = Turn l (join b rest)
join (Again l b) rest = Again l (join b rest)

-- A loop from its next test on, in front of what follows it: without a condition its body begins at once. No body of a loop that isn't
-- begun stands there, so that each Turn is one of a loop around.
abbrev pub tested : Loop → Block → Block
tested (Looping None n body) rest = Then (Enter (Looping None n body)) rest
tested (Looping (Some c) n body) rest = Then (While c (Looping (Some c) n body)) rest

-- Its body, and then its next turn.
abbrev pub entered : Loop → Block → Block
entered (Looping c n body) rest = join body (Turn (Looping c n body) rest)

-- Behind the body: what is done between two turns, or else the next test.
abbrev pub turned : Loop → Block → Block
turned (Looping c None body) rest = tested (Looping c None body) rest
turned (Looping c (Some n) body) rest = Then (Eval n) (Again (Looping c (Some n) body) rest)

-- What is left behind a loop that so many loops stand within, and from the end of its body on.
abbrev pub behind : ℕ → Block → Block
behind n Done = Done
behind n (Then s b) = behind n b
behind n (Again l b) = behind n b
behind zero (Turn l b) = b
behind (suc n) (Turn l b) = behind n b

abbrev pub at_turn : ℕ → Block → Block
at_turn n Done = Done
at_turn n (Then s b) = at_turn n b
at_turn n (Again l b) = at_turn n b
at_turn zero (Turn l b) = Turn l b
at_turn (suc n) (Turn l b) = at_turn n b
