-- What stands around a statement (Limbo Language Reference, statements), and the expressions that stand in it.
use Rattle.std.specs.Prelude.{◌≡◌, ◌≢◌, ℕ, ◌<◌, ◌⊎◌, Bool, true, false, if◌then◌else◌, List, ◌∷◌, Option, None, Some, slice_get}
use Rattle.limbo_tree.specs.Exprs as tree
use Rattle.limbo_types.specs.Types.{Ty, Int}
use Rattle.limbo_values.specs.Operators.{holds}
use Rattle.limbo_typed.specs.declared.stmt.Constant.{Constant}
use Rattle.limbo_typed.specs.declared.stmt.Constant.TheVariants as constant
use Rattle.limbo_typed.specs.Typed.{Expr}
use Rattle.limbo_typed.specs.Sound.{type_of, IsSettled}
use Rattle.limbo_refusals.specs.Refusals.{Clash}
use Rattle.limbo_causes.specs.Causes.{Cause, Refused}
use Rattle.limbo_context.specs.Context.{Body}
use Rattle.limbo_local.specs.limbo_folding.Folding.{value_of}
use Rattle.limbo_local.specs.limbo_value_forms.Forms.{itself}
use Rattle.limbo_local.specs.limbo_typing.Typing.{Types}
use Rattle.limbo_local.specs.limbo_typing.Failing.{Fails, FailsValue}
use Rattle.limbo_local.specs.Points.{Point, ValueAt, with_body}

-- A loop or a branch, with its label where it has one. Branches are `case`, `alt` and `pick`.
pub record Turn : Type 0 where
  pub label : Option (List ℕ)
  pub is_loop : Bool

-- The answer of the function, and the name of its module; the loops and branches around a statement, the innermost first; the handler in an
-- arm of which it stands.
pub record Around : Type 0 where
  pub answer : Ty
  pub module_name : List ℕ
  pub turns : List Turn
  pub caught : Option ℕ

abbrev pub in_loop : Option (List ℕ) → Around → Around
in_loop l v = record v { turns = (record { label = l; is_loop = true }) ∷ v.turns }

abbrev pub in_branch : Option (List ℕ) → Around → Around
in_branch l v = record v { turns = (record { label = l; is_loop = false }) ∷ v.turns }

abbrev pub in_arm_of : (handler : ℕ) → Around → Around
in_arm_of n v = record v { caught = Some n }

-- ---- `break` and `continue`

-- Either speaks of what has its label, and without one of any; a `continue` of loops alone.
abbrev pub IsLabelled : Option (List ℕ) → Turn → Type 0
IsLabelled l t = (l ≡ None) ⊎ (t.label ≡ l)

abbrev pub IsContinued : Option (List ℕ) → Turn → Type 0
IsContinued l t = IsLabelled l t × (t.is_loop ≡ true)

-- Of these the innermost of which this holds has this place.
pub record Innermost (turns : List Turn) (Is : Turn → Type 0) (n : ℕ) : Type 0 where
  pub turn : Turn
  pub there : slice_get turns n ≡ Some turn
  pub is : Is turn
  pub none_further_in : (m : ℕ) (t : Turn) → m < n → slice_get turns m ≡ Some t → Is t → ⊥

-- ---- expressions that are evaluated for what they do

-- A call without an answer may stand there; a `nil` of which nothing says what it stands for may not.
pub record Evaluates (p : Point) (e : tree.Expr) (x : Expr) (q : Point) : Type 0 where
  pub behind : Body
  pub types : Types p.context p.body e x behind
  pub settled : IsSettled (type_of x)
  pub goes_on : q ≡ with_body behind p

pub data FailsToEvaluate (p : Point) (e : tree.Expr) : Cause → Type 0 where
  untyped : (k : Cause) → Fails p.context p.body e k → FailsToEvaluate p e k
  open_yet : (x : Expr) (b : Body) → Types p.context p.body e x b → (IsSettled (type_of x) → ⊥) → FailsToEvaluate p e (Refused (itself x))

abbrev pub MayEvaluate : Point → Option tree.Expr → Option Expr → Point → Type 0
MayEvaluate p None x q = (x ≡ None) × (q ≡ p)
MayEvaluate p (Some e) x q = (y : Expr) × Evaluates p e y q × (x ≡ Some y)

abbrev pub MayFailToEvaluate : Point → Option tree.Expr → Cause → Type 0
MayFailToEvaluate p None k = ⊥
MayFailToEvaluate p (Some e) k = FailsToEvaluate p e k

-- ---- conditions

-- A condition is an int.
pub record Tests (p : Point) (e : tree.Expr) (x : Expr) (q : Point) : Type 0 where
  pub has : ValueAt p e x q
  pub int : type_of x ≡ Int

pub data FailsToTest (p : Point) (e : tree.Expr) : Cause → Type 0 where
  no_value : (k : Cause) → FailsValue p.context p.body e k → FailsToTest p e k
  no_int : (x : Expr) (q : Point) → ValueAt p e x q → type_of x ≢ Int → FailsToTest p e (Refused (Clash (type_of x) Int))

-- A loop whose condition is a constant that isn't 0 is one without a condition.
abbrev pub always : Option Constant → Bool
always (Some (constant.Number n)) = holds n
always _ = false

abbrev pub condition : Expr → Option Expr
condition x = if always (value_of x) then None else Some x

abbrev pub MayTest : Point → Option tree.Expr → Option Expr → Point → Type 0
MayTest p None x q = (x ≡ None) × (q ≡ p)
MayTest p (Some e) x q = (y : Expr) × Tests p e y q × (x ≡ condition y)

abbrev pub MayFailToTest : Point → Option tree.Expr → Cause → Type 0
MayFailToTest p None k = ⊥
MayFailToTest p (Some e) k = FailsToTest p e k
