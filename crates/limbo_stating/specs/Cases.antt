-- What a `case` chooses from, and the labels of its arms (Limbo Language Reference, case statement).
use Rattle.std.specs.Prelude.{◌≡◌, ◌≢◌, ◌≤◌, ◌≤ℤ◌, Bool, true, false, List, [], ◌∷◌, ◌++◌, count_by, None, Some}
use Rattle.limbo_tree.specs.Exprs as tree
use Rattle.limbo_tree.specs.Stmts as stmts
use Rattle.limbo_types.specs.Types.{Ty, Chars, Nil}
use Rattle.limbo_typed.specs.declared.stmt.Constant.{Constant}
use Rattle.limbo_typed.specs.declared.stmt.Constant.TheVariants as constant
use Rattle.limbo_typed.specs.declared.stmt.CasePattern.{CasePattern}
use Rattle.limbo_typed.specs.declared.stmt.CasePattern.TheVariants as case
use Rattle.limbo_typed.specs.Typed.{Expr}
use Rattle.limbo_typed.specs.Sound.{type_of, IsCased}
use Rattle.limbo_standing.specs.Standing.{Settles}
use Rattle.limbo_refusals.specs.Refusals.{Clash, NoneIs}
use Rattle.limbo_causes.specs.Causes.{Cause, Refused}
use Rattle.limbo_local.specs.limbo_folding.Folding.{value_of}
use Rattle.limbo_local.specs.limbo_value_forms.Forms.{itself}
use Rattle.limbo_local.specs.limbo_typing.Failing.{FailsValue}
use Rattle.limbo_cases.specs.declared.label.Label.{Label}
use Rattle.limbo_cases.specs.Labels.{Apart}
use Rattle.limbo_cases.specs.Texts.{TextAtMost}
use Rattle.limbo_local.specs.Points.{Point, ValueAt}
use Rattle.limbo_stating.specs.Reasons.{Reason, ByPart, CaseOverlap}

-- ---- the value

-- An int, a big or a string, for which `nil` stands too.
pub data IsChosenFrom (x : Expr) : Expr → Type 0 where
  as_it_is : IsCased (type_of x) → IsChosenFrom x x
  as_string : (y : Expr) → type_of x ≡ Nil → Settles Chars x y → IsChosenFrom x y

pub record Chooses (p : Point) (e : tree.Expr) (x : Expr) (q : Point) : Type 0 where
  pub value : Expr
  pub has : ValueAt p e value q
  pub is : IsChosenFrom value x

pub data FailsToChoose (p : Point) (e : tree.Expr) : Cause → Type 0 where
  no_value : (k : Cause) → FailsValue p.context p.body e k → FailsToChoose p e k
  no_choice : (x : Expr) (q : Point) → ValueAt p e x q → NoneIs (IsChosenFrom x) → FailsToChoose p e (Refused (itself x))

-- ---- labels

-- A label is a constant of the type of the value.
pub record IsLabel (t : Ty) (p : Point) (e : tree.Expr) (v : Constant) (q : Point) : Type 0 where
  pub value : Expr
  pub has : ValueAt p e value q
  pub of : type_of value ≡ t
  pub known : value_of value ≡ Some v

-- A pattern is a value, a range from a value to another, or `*`.
abbrev pub IsPattern : Ty → Point → stmts.Pattern → CasePattern → Point → Type 0
IsPattern t p stmts.AnyValue z q = (z ≡ case.Any) × (q ≡ p)
IsPattern t p (stmts.Value e) z q = (v : Constant) × IsLabel t p e v q × (z ≡ case.One v)
IsPattern t p (stmts.Range e f) z q =
    (v : Constant) × (w : Constant) × (r : Point) × IsLabel t p e v r × IsLabel t r f w q × (z ≡ case.Range v w)

-- patterns in a row
abbrev pub ArePatterns : Ty → Point → List stmts.Pattern → List CasePattern → Point → Type 0
ArePatterns t p [] [] q = q ≡ p
ArePatterns t p (x ∷ xs) (z ∷ zs) q = (r : Point) × IsPattern t p x z r × ArePatterns t r xs zs q
ArePatterns t p _ _ q = ⊥

-- It has no value, or one of another type, or isn't constant.
pub data FailsLabel (t : Ty) (p : Point) (e : tree.Expr) : Reason → Type 0 where
  unvalued : (k : Cause) → FailsValue p.context p.body e k → FailsLabel t p e (ByPart k)
  other_type : (x : Expr) (q : Point) → ValueAt p e x q → type_of x ≢ t → FailsLabel t p e (ByPart (Refused (Clash (type_of x) t)))
  not_constant : (x : Expr) (q : Point) → ValueAt p e x q → value_of x ≡ None → FailsLabel t p e CaseOverlap

pub data FailsPattern (t : Ty) (p : Point) : stmts.Pattern → Reason → Type 0 where
  only : (e : tree.Expr) (k : Reason) → FailsLabel t p e k → FailsPattern t p (stmts.Value e) k
  from : (e f : tree.Expr) (k : Reason) → FailsLabel t p e k → FailsPattern t p (stmts.Range e f) k
  to : (e f : tree.Expr) (v : Constant) (q : Point) (k : Reason) → IsLabel t p e v q → FailsLabel t q f k
      → FailsPattern t p (stmts.Range e f) k

-- The first that fails.
pub data FailsPatterns (t : Ty) : Point → List stmts.Pattern → Reason → Type 0 where
  here : (p : Point) (x : stmts.Pattern) (xs : List stmts.Pattern) (k : Reason) → FailsPattern t p x k → FailsPatterns t p (x ∷ xs) k
  later : (p q : Point) (x : stmts.Pattern) (z : CasePattern) (xs : List stmts.Pattern) (k : Reason) → IsPattern t p x z q
      → FailsPatterns t q xs k → FailsPatterns t p (x ∷ xs) k

-- ---- all labels of a `case`

-- the patterns of all arms, one arm after the other
abbrev pub all_patterns : List (List CasePattern) → List CasePattern
all_patterns [] = []
all_patterns (ps ∷ heads) = ps ++ all_patterns heads

-- A single value is a label from itself to itself, and `*` is none.
abbrev pub labels : List CasePattern → List (Label Constant)
labels [] = []
labels (case.One v ∷ ps) = (record { low = v; high = v }) ∷ labels ps
labels (case.Range v w ∷ ps) = (record { low = v; high = w }) ∷ labels ps
labels (case.Any ∷ ps) = labels ps

-- Numbers are compared by their values, strings by the codes of their characters.
abbrev pub AtMost : Constant → Constant → Type 0
AtMost (constant.Number m) (constant.Number n) = m ≤ℤ n
AtMost (constant.Chars s) (constant.Chars t) = TextAtMost s t
AtMost _ _ = ⊥

abbrev pub is_star : CasePattern → Bool
is_star case.Any = true
is_star _ = false

-- No two labels overlap, and `*` stands once at most.
pub record AreApart (heads : List (List CasePattern)) : Type 0 where
  pub apart : Apart AtMost (labels (all_patterns heads))
  pub one_star : count_by is_star (all_patterns heads) ≤ 1
