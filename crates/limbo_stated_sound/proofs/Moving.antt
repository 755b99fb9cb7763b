-- Bodies behind expressions: more variables, and the same scopes around the innermost.
use Rattle.std.proofs.Common.{◌≡◌, ℕ, List, [], ◌∷◌, Option, None, Some, refl, ap, ◌∙◌}
use Rattle.limbo_types.specs.Types.{Ty, Tys}
use Rattle.limbo_tree.specs.Exprs as tree
use Rattle.limbo_typed.specs.Typed.{Expr, Pattern, Patterns}
use Rattle.limbo_scope.specs.declared.meaning.Meaning.{Meaning}
use Rattle.limbo_scope.specs.Scopes.{Scope, declared, left}
use Rattle.limbo_scope.specs.Laws.{declared_all}
use Rattle.limbo_context.specs.Context.{Context, Body}
use Rattle.limbo_defining.specs.Defining as defining
use Rattle.limbo_defining.specs.Defining.{Defines, DefineEach}
use Rattle.limbo_typed_sound.specs.limbo_typing.Typing.{HasValue, Types, HaveValues}
use Rattle.limbo_stating.specs.limbo_local.Local.{seeing, seen_behind}
use Rattle.limbo_typed_sound.specs.Laws.{Grows}
use Rattle.limbo_typed_sound.proofs.Bodies as bodies
use Rattle.limbo_typed_sound.proofs.Bodies.{defines_grows}
use Rattle.limbo_typed_sound.proofs.Leading as leading
use Rattle.limbo_stated_sound.specs.Growing.{around}

pub record Moves (b d : Body) : Type 0 where
  pub variables : Grows b d
  pub scopes : around d.scopes ≡ around b.scopes

pub stays : (b : Body) → Moves b b
stays b = record { variables = bodies.stays b; scopes = refl }

pub goes_on : (b d e : Body) → Moves b d → Moves d e → Moves b e
goes_on b d e g h = record { variables = bodies.goes_on b d e g.variables h.variables; scopes = h.scopes ∙ g.scopes }

-- ---- scopes

pub around_declared : (name : List ℕ) (k : Meaning) (scopes : List Scope) → around (declared name k scopes) ≡ around scopes
around_declared name k [] = refl
around_declared name k (scope ∷ outer) = refl

pub around_all : (ds : List (List ℕ × Meaning)) (scopes : List Scope) → around (declared_all ds scopes) ≡ around scopes
around_all [] scopes = refl
around_all (d ∷ ds) scopes = around_all ds (declared d.0 d.1 scopes) ∙ around_declared d.0 d.1 scopes

-- who leaves a scope has the scopes around as they were
pub around_left : (inner outer : List Scope) → around inner ≡ outer → around (left inner) ≡ around outer
around_left [] outer e = ap around e
around_left (scope ∷ []) outer e = ap around e
around_left (scope ∷ next ∷ more) outer e = ap around e

-- ---- expressions

mutual
  around_defined : (b d : Body) (e : tree.Expr) (t : Ty) (p : Pattern) → Defines b e t p d → around d.scopes ≡ around b.scopes
  around_defined _ _ _ _ _ (defining.name b n t f) = around_declared n _ b.scopes
  around_defined _ _ _ _ _ (defining.Defines.parts b d e f es ts ps h) = around_each b d (tree.MoreExprs e (tree.MoreExprs f es)) ts ps h

  around_each : (b d : Body) (es : tree.Exprs) (ts : Tys) (ps : Patterns) → DefineEach b es ts ps d → around d.scopes ≡ around b.scopes
  around_each _ _ _ _ _ (defining.DefineEach.no_more b) = refl
  around_each _ _ _ _ _ (defining.DefineEach.nowhere b d t es ts ps h) = around_each b d es ts ps h
  around_each _ _ _ _ _ (defining.DefineEach.and_more b b1 d e t p es ts ps h k) =
      around_each b1 d es ts ps k ∙ around_defined b b1 e t p h

defines : (b d : Body) (e : tree.Expr) (t : Ty) (p : Pattern) → Defines b e t p d → Moves b d
defines b d e t p h = record { variables = defines_grows b d e t p h; scopes = around_defined b d e t p h }

module _ (c : Context) where
  pub by_value : (b : Body) (e : tree.Expr) (x : Expr) (d : Body) → HasValue c b e x d → Moves b d
  by_value = leading.of_value c Moves stays goes_on (λ b d e t p i s h. defines b d e t p h)

  pub by_typed : (b : Body) (e : tree.Expr) (x : Expr) (d : Body) → Types c b e x d → Moves b d
  by_typed = leading.of_typed c Moves stays goes_on (λ b d e t p i s h. defines b d e t p h)

  pub by_values : (b : Body) (es : tree.Exprs) (xs : _) (d : Body) → HaveValues c b es xs d → Moves b d
  by_values = leading.of_values c Moves stays goes_on (λ b d e t p i s h. defines b d e t p h)

-- ---- `iota`

-- what holds behind an expression that sees `iota`, holds behind the constant
pub behind_iota : (o : Option Meaning) (c : Context) (b d : Body) → Moves (seeing o c b) d → Moves b (seen_behind o d)
behind_iota (Some k) c b d h = h
behind_iota None c b d h = record { variables = h.variables; scopes = around_left d.scopes b.scopes h.scopes }
