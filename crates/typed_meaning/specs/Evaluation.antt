-- One step inside an expression: the leftmost part that is ready.
use Rattle.std.specs.Prelude.{ℕ, Bool, true, false, List, [], ◌∷◌, Result, Ok, Err}
use Rattle.limbo_types.specs.Types.{Int}
use Rattle.limbo_values.specs.declared.raised.Raised.{Raised}
use Rattle.limbo_values.specs.Operators.{text_of}
use Rattle.limbo_typed.specs.declared.operation.Given.{Given}
use Rattle.limbo_typed.specs.declared.operation.Given.TheVariants as given
use Rattle.limbo_typed.specs.declared.print.Piece.{Piece}
use Rattle.system_model.specs.Values.{Value, zero_value}
use Rattle.typed_meaning.specs.Values.{fitted, result_of, decides, truth_of}
use Rattle.typed_meaning.specs.Trees.{Place, At, Term, Evaluated, Awaiting, Missing, Literal, Read, Apply, Lazy, Deciding, Store, Change}
use Rattle.typed_meaning.specs.Trees.{Put, Call, Print, Terms, NoTerms, MoreTerms, Stm, Over, Eval, Set, If, While, Enter, Break}
use Rattle.typed_meaning.specs.Trees.{Continue, Return, Leave}
use Rattle.typed_meaning.specs.Trees.{Block, Done, Then, Turn, Again}

-- What a step comes to in a tree. The tree is evaluated already; the step makes it another tree; it writes a value to a place; it calls a
-- function with these values, or prints them, and the tree waits for the answer; it raises an exception with this text; or nothing in it is
-- ready.
pub data Progress (R T : Type 0) : Type 0 where
  Finished : R → Progress R T
  Stepped : T → Progress R T
  Writes : Place → Value → T → Progress R T
  Calls : (function : ℕ) → List Value → T → Progress R T
  Prints : List Piece → List Value → T → Progress R T
  Raises : (text : List ℕ) → Progress R T
  Blocked : Progress R T

-- A part of a tree comes first, and the rest once the part is evaluated: `go` says what then, `within` puts the part back.
abbrev pub after : {R S T U : Type 0} → Progress R T → (R → Progress S U) → (T → U) → Progress S U
after (Finished v) go within = go v
after (Stepped t) go within = Stepped (within t)
after (Writes p v t) go within = Writes p v (within t)
after (Calls f vs t) go within = Calls f vs (within t)
after (Prints ps vs t) go within = Prints ps vs (within t)
after (Raises text) go within = Raises text
after Blocked go within = Blocked

-- What an operation gives, and what comes of that; or the exception that it raises.
abbrev pub gives : Result Value Raised → (Value → Term) → Progress Value Term
gives (Ok v) use_it = Stepped (use_it v)
gives (Err r) use_it = Raises (text_of r)

-- The decision of a connective: the left operand's truth, or the right operand's.
abbrev pub decided : Bool → Value → Term → Term
decided true v right = Evaluated (truth_of v)
decided false v right = Deciding right

-- What `p op= e`, `p++` and `++p` give: the value that the place has then, or the one that it had, which is the first operand.
abbrev pub first_of : List Value → Value
first_of [] = zero_value
first_of (v ∷ vs) = v

abbrev pub given_by : Given → List Value → Value → Value
given_by given.Old vs w = first_of vs
given_by given.New vs w = w

abbrev pub read_at : (Place → Value) → Place → Value
read_at reads (At t n) = fitted t (reads (At t n))

abbrev pub stored_at : Place → Value → Value
stored_at (At t n) v = fitted t v

-- Each of these is one step: the value of a constant; a read and a write of one place; an operation on values; the decision of a
-- connective, and the truth of its right operand; a call and a print. Operands and arguments are evaluated from left to right. A value is
-- brought to the type of the place that it is read from or written to, and an answer to the call's type.
module _ (reads : Place → Value) where
  abbrev mutual
    pub next : Term → Progress Value Term
    next (Evaluated v) = Finished v
    next (Awaiting t) = Blocked
    next Missing = Blocked
    next (Literal t v) = Stepped (Evaluated v)
    next (Read p) = Stepped (Evaluated (read_at reads p))
    next (Apply o ts) = after (next_all ts) (λ vs. gives (result_of o vs) Evaluated) (λ ts. Apply o ts)
    next (Lazy c l r) = after (next l) (λ v. Stepped (decided (decides c v) v r)) (λ l. Lazy c l r)
    next (Deciding r) = after (next r) (λ v. Stepped (Evaluated (truth_of v))) Deciding
    next (Store p t) = after (next t) (λ v. Writes p (stored_at p v) (Evaluated v)) (λ t. Store p t)
    next (Change o g p ts) =
        after (next_all ts) (λ vs. gives (result_of o vs) (λ w. Put p (stored_at p w) (given_by g vs w))) (λ ts. Change o g p ts)
    next (Put p v w) = Writes p v (Evaluated w)
    next (Call t f ts) = after (next_all ts) (λ vs. Calls f vs (Awaiting t)) (λ ts. Call t f ts)
    next (Print ps ts) = after (next_all ts) (λ vs. Prints ps vs (Awaiting Int)) (λ ts. Print ps ts)

    pub next_all : Terms → Progress (List Value) Terms
    next_all NoTerms = Finished []
    next_all (MoreTerms t ts) =
        after (next t) (λ v. after (next_all ts) (λ vs. Finished (v ∷ vs)) (λ ts. MoreTerms (Evaluated v) ts)) (λ t. MoreTerms t ts)

-- The answer in place of the wait for it.
abbrev mutual
  pub fill : Value → Term → Term
  fill v (Evaluated w) = Evaluated w
  fill v (Awaiting t) = Evaluated (fitted t v)
  fill v Missing = Missing
  fill v (Literal t w) = Literal t w
  fill v (Read p) = Read p
  fill v (Apply o ts) = Apply o (fill_all v ts)
  fill v (Lazy c l r) = Lazy c (fill v l) r
  fill v (Deciding r) = Deciding (fill v r)
  fill v (Store p t) = Store p (fill v t)
  fill v (Change o g p ts) = Change o g p (fill_all v ts)
  fill v (Put p x y) = Put p x y
  fill v (Call t f ts) = Call t f (fill_all v ts)
  fill v (Print ps ts) = Print ps (fill_all v ts)

  pub fill_all : Value → Terms → Terms
  fill_all v NoTerms = NoTerms
  fill_all v (MoreTerms t ts) = MoreTerms (fill v t) (fill_all v ts)

abbrev pub fill_stm : Value → Stm → Stm
fill_stm v Over = Over
fill_stm v (Eval t) = Eval (fill v t)
fill_stm v (Set ps t) = Set ps (fill v t)
fill_stm v (If t a b) = If (fill v t) a b
fill_stm v (While t l) = While (fill v t) l
fill_stm v (Enter l) = Enter l
fill_stm v (Break n) = Break n
fill_stm v (Continue n) = Continue n
fill_stm v (Return t) = Return (fill v t)
fill_stm v Leave = Leave

-- Only the first statement of a block is in evaluation.
abbrev pub fill_block : Value → Block → Block
fill_block v Done = Done
fill_block v (Then s rest) = Then (fill_stm v s) rest
fill_block v (Turn l rest) = Turn l rest
fill_block v (Again l rest) = Again l rest
