-- Declarations in bodies, as the code gives them: whatever the module's name, and however many handlers the function has.
use Rattle.std.specs.Prelude.{◌≡◌, ℕ, List}
use Rattle.limbo_tree.specs.Exprs as tree
use Rattle.limbo_tree.specs.Types as written
use Rattle.limbo_types.specs.Types.{Ty}
use Rattle.limbo_written.specs.Written.{MeansPermitted}
use Rattle.limbo_tree.specs.Decls.{Decl}
use Rattle.limbo_typed.specs.Typed.{Expr, Stmt}
use Rattle.limbo_causes.specs.Causes.{Cause}
use Rattle.limbo_context.specs.Context.{Context, Body, Valued}
use Rattle.limbo_exprs.specs.limbo_typing.Typing.{HasValue}
use Rattle.limbo_local.specs.Points.{Point}
use Rattle.limbo_local.specs.Local.{counting, seeing_iota, without_iota, IsConstant, AreConstants, with_constants, with_types}
use Rattle.limbo_local.specs.Declaring.{Declares}
use Rattle.limbo_local.specs.Failing.{FailsConstant, FailsConstants, FailsToDeclare}

abbrev pub at : Context → Body → ℕ → Point
at c b n = record { context = c; body = b; catches = n }

-- a declaration of a body of the module of this name
abbrev pub DeclaresIn : (module_name : List ℕ) → Context → Body → Decl → Stmt → Context → Body → Type 0
DeclaresIn m c b d z c' b' = (n : ℕ) → Declares m d (at c b n) z (at c' b' n)

abbrev pub DeclaresAt : Context → Body → Decl → Stmt → Context → Body → Type 0
DeclaresAt c b d z c' b' = (module_name : List ℕ) (n : ℕ) → Declares module_name d (at c b n) z (at c' b' n)

abbrev pub FailsAt : Context → Body → Decl → Cause → Type 0
FailsAt c b d k = (n : ℕ) → FailsToDeclare d (at c b n) k

-- ---- constants

-- An expression has this value where `iota` is the place of a name.
abbrev pub HasValueAt : Context → Body → tree.Expr → (place : ℕ) → Expr → Body → Type 0
HasValueAt c b e k x b' = (d : Body) × HasValue (counting k c) (seeing_iota c b) e x d × (b' ≡ without_iota b d)

-- The expression is a constant, and its value is that of the name with this place.
abbrev pub IsConstantAt : Context → Body → tree.Expr → (place : ℕ) → Valued → Body → Type 0
IsConstantAt c b e k v b' = (n : ℕ) → IsConstant (at c b n) e k v (at c b' n)

-- one for each name
abbrev pub AreConstantsAt : Context → Body → tree.Expr → List (List ℕ) → List Valued → Body → Type 0
AreConstantsAt c b e ns vs b' = (n : ℕ) → AreConstants e 0 ns vs (at c b n) (at c b' n)

-- Names are declared for such values.
abbrev pub AddsConstants : Context → Body → List (List ℕ) → tree.Expr → Context → Body → Type 0
AddsConstants c b ns e c' b' =
    (n : ℕ) → (vs : List Valued) × (r : Point) × AreConstants e 0 ns vs (at c b n) r × (at c' b' n ≡ with_constants ns vs r)

abbrev pub FailsConstantAt : Context → Body → tree.Expr → (place : ℕ) → Cause → Type 0
FailsConstantAt c b e place k = (n : ℕ) → FailsConstant (at c b n) e place k

abbrev pub FailsConstantsAt : Context → Body → tree.Expr → List (List ℕ) → Cause → Type 0
FailsConstantsAt c b e ns k = (n : ℕ) → FailsConstants e 0 ns (at c b n) k

-- ---- types

-- Names are given to the type that is written.
abbrev pub AddsTypes : Context → Body → List (List ℕ) → written.Ty → Context → Body → Type 0
AddsTypes c b ns t c' b' = (u : Ty) × MeansPermitted c b t u × ((n : ℕ) → at c' b' n ≡ with_types ns u (at c b n))
