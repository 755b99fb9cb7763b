-- What holds of declarations in bodies.
use Rattle.std.specs.Prelude.{◌≡◌, ℕ, List}
use Rattle.limbo_tree.specs.Decls.{Decl}
use Rattle.limbo_typed.specs.Typed.{Stmt}
use Rattle.limbo_causes.specs.Causes.{Cause}
use Rattle.limbo_local.specs.Points.{Point}
use Rattle.limbo_local.specs.Declaring.{Declares}
use Rattle.limbo_local.specs.Failing.{FailsToDeclare}

-- A declaration is one statement at most, and leads to one point.
abbrev pub OneDeclared : Type 0
OneDeclared =
    (m : List ℕ) (d : Decl) (p q r : Point) (x y : Stmt) → Declares m d p x q → Declares m d p y r → (x ≡ y) × (q ≡ r)

-- What fails, by whatever cause, declares nothing.
abbrev pub FailsOrDeclares : Type 0
FailsOrDeclares = (m : List ℕ) (d : Decl) (p q : Point) (k : Cause) (x : Stmt) → FailsToDeclare d p k → Declares m d p x q → ⊥
