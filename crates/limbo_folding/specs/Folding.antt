-- The constant that a typed expression is (Limbo Language Reference, constant expressions).
use Rattle.std.specs.Prelude.{ℕ, ℤ, pos, Bool, true, false, if◌then◌else◌, Option, None, Some, option_map, List, length}
use Rattle.std.specs.Result.{result_ok}
use Rattle.inf_text.specs.Options.{◌>>=◌}
use Rattle.limbo_values.specs.declared.number.Kind.TheVariants as kind
use Rattle.limbo_values.specs.declared.operator.Unary.{Unary}
use Rattle.limbo_values.specs.declared.operator.Unary.TheVariants.{Increment, Decrement}
use Rattle.limbo_values.specs.Numbers.{wrapped}
use Rattle.limbo_values.specs.Operators as values
use Rattle.limbo_values.specs.Texts.{joined, text_compared}
use Rattle.limbo_types.specs.Types.{Ty}
use Rattle.limbo_typed.specs.declared.operation.Operation.{Operation}
use Rattle.limbo_typed.specs.declared.operation.Operation.TheVariants.{Arithmetic, Shift, Alter, Compare, CompareChars}
use Rattle.limbo_typed.specs.declared.operation.Operation.TheVariants.{Not, Convert, Join, Length}
use Rattle.limbo_typed.specs.declared.operation.Sequence.{Sequence}
use Rattle.limbo_typed.specs.declared.operation.Sequence.TheVariants as sequence
use Rattle.limbo_typed.specs.declared.operation.Connective.{Connective}
use Rattle.limbo_typed.specs.declared.operation.Connective.TheVariants.{And, Or}
use Rattle.limbo_typed.specs.declared.stmt.Constant.{Constant}
use Rattle.limbo_typed.specs.declared.stmt.Constant.TheVariants as constant
use Rattle.limbo_typed.specs.Typed as tree
use Rattle.limbo_typed.specs.Typed.{Expr, Of, Node, Apply, Lazy, Exprs, NoExprs, MoreExprs}
use Rattle.limbo_forms.specs.Forms.{kind_of}
use Rattle.limbo_folding.specs.declared.outcome.Outcome.{Outcome}
use Rattle.limbo_folding.specs.declared.outcome.Outcome.TheVariants.{Gives, Raises}

-- what comes of a value, of which there is none where its evaluation raises
abbrev pub settled : Option Constant → Outcome
settled None = Raises
settled (Some a) = Gives a

abbrev pub number : ℤ → Outcome
number n = Gives (constant.Number n)

-- 1 or 0
abbrev pub decision : Bool → Outcome
decision is_so = number (values.truth is_so)

-- ---- operations

-- `++` and `--` change a place.
abbrev pub changes : Unary → Bool
changes Increment = true
changes Decrement = true
changes _ = false

abbrev pub is_text : Sequence → Bool
is_text sequence.Chars = true
is_text _ = false

-- The operations that are constant where their operands are.
abbrev pub folds : Operation → Bool
folds (Arithmetic by k) = true
folds (Shift by k) = true
folds (Alter by k) = if changes by then false else true
folds (Compare by k) = true
folds (CompareChars by) = true
folds Not = true
folds (Convert from to) = true
folds Join = true
folds (Length of) = is_text of
folds _ = false

-- What each gives of one number: each number is taken as one of the operation's kind.
abbrev pub of_number : Operation → ℤ → Option Outcome
of_number (Alter by k) a = Some (number (values.altered k by (wrapped k a)))
of_number Not a = Some (number (values.denied (wrapped kind.Int a)))
of_number (Convert from to) a = Some (number (wrapped to a))
of_number _ a = None

-- `len` of a string, which has at most 16,777,216 characters
abbrev pub of_text : Operation → List ℕ → Option Outcome
of_text (Length of) s = Some (number (wrapped kind.Int (pos (length s))))
of_text _ s = None

abbrev pub of_numbers : Operation → ℤ → ℤ → Option Outcome
of_numbers (Arithmetic by k) a b =
    Some (settled (option_map (λ n. constant.Number n) (result_ok (values.applied k by (wrapped k a) (wrapped k b)))))
of_numbers (Shift by k) a count = Some (number (values.shifted k by (wrapped k a) (wrapped kind.Int count)))
of_numbers (Compare by k) a b = Some (decision (values.compared by a b))
of_numbers _ a b = None

abbrev pub of_texts : Operation → List ℕ → List ℕ → Option Outcome
of_texts (CompareChars by) s t = Some (decision (text_compared by s t))
of_texts Join s t = Some (settled (option_map (λ text. constant.Chars text) (result_ok (joined s t))))
of_texts _ s t = None

abbrev pub of_constants : Operation → Constant → Constant → Option Outcome
of_constants o (constant.Number a) (constant.Number b) = of_numbers o a b
of_constants o (constant.Chars s) (constant.Chars t) = of_texts o s t
of_constants o (constant.Number a) (constant.Chars t) = None
of_constants o (constant.Chars s) (constant.Number b) = None

-- Where an operand raises, so does the operation.
abbrev pub of_one : Operation → Outcome → Option Outcome
of_one o (Gives (constant.Number a)) = of_number o a
of_one o (Gives (constant.Chars s)) = of_text o s
of_one o Raises = Some Raises

abbrev pub of_two : Operation → Outcome → Outcome → Option Outcome
of_two o (Gives a) (Gives b) = of_constants o a b
of_two o (Gives a) Raises = Some Raises
of_two o Raises y = Some Raises

-- ---- `&&` and `||`

-- whether a condition holds
abbrev pub condition : Outcome → Option Bool
condition (Gives (constant.Number n)) = Some (values.holds n)
condition (Gives (constant.Chars s)) = None
condition Raises = None

-- The right condition counts only where the left one doesn't decide. One that raises is none.
abbrev pub decided : Connective → Option Bool → Option Bool → Option Bool
decided And None right = None
decided And (Some true) right = right
decided And (Some false) right = Some false
decided Or None right = None
decided Or (Some true) right = Some true
decided Or (Some false) right = right

abbrev pub told : Option Bool → Outcome
told None = Raises
told (Some is_so) = decision is_so

abbrev pub lazily : Connective → Outcome → Outcome → Outcome
lazily c left right = told (decided c (condition left) (condition right))

-- ---- expressions

-- a number of a number's type
abbrev pub literal : Ty → ℤ → Option Outcome
literal t n = kind_of t >>= λ k. Some (number n)

abbrev pub with_one : Operation → Option Outcome → Option Outcome
with_one o operand = operand >>= of_one o

abbrev pub with_two : Operation → Option Outcome → Option Outcome → Option Outcome
with_two o left right = left >>= λ x. right >>= λ y. of_two o x y

abbrev pub with_lazy : Connective → Option Outcome → Option Outcome → Option Outcome
with_lazy c left right = left >>= λ x. right >>= λ y. Some (lazily c x y)

-- What an expression comes to: none where it isn't constant, as with `nil`, what is in a place, calls, and strings that are made of
-- numbers or of parts.
abbrev mutual
  pub outcome : Expr → Option Outcome
  outcome (Of t n) = outcome_at t n

  pub outcome_at : Ty → Node → Option Outcome
  outcome_at t (tree.Number n) = literal t n
  outcome_at t (tree.Chars s) = Some (Gives (constant.Chars s))
  outcome_at t (Apply o es) = if folds o then on_operands o es else None
  outcome_at t (Lazy c l r) = with_lazy c (outcome l) (outcome r)
  outcome_at t _ = None

  pub on_operands : Operation → Exprs → Option Outcome
  on_operands o (MoreExprs e NoExprs) = with_one o (outcome e)
  on_operands o (MoreExprs e (MoreExprs f NoExprs)) = with_two o (outcome e) (outcome f)
  on_operands o _ = None

-- what an operation on operands comes to
abbrev pub applied : Operation → Exprs → Option Outcome
applied o es = if folds o then on_operands o es else None

abbrev pub value_in : Outcome → Option Constant
value_in (Gives a) = Some a
value_in Raises = None

-- The constant that an expression is: none where it isn't constant, or would raise.
abbrev pub value_of : Expr → Option Constant
value_of e = outcome e >>= value_in
