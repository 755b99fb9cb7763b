-- Where the checking of a body comes to, behind where it has come to: what only grows.
use Rattle.std.specs.Prelude.{◌≡◌, ◌≤◌, ℕ, List, [], ◌∷◌, None, Some, slice_get}
use Rattle.limbo_types.specs.Types as ty
use Rattle.limbo_typed.specs.Typed.{Var}
use Rattle.limbo_typed.specs.Sound.{HasVariable}
use Rattle.limbo_scope.specs.Scopes.{Scope}
use Rattle.limbo_context.specs.declared.context.Imported.{Imported}
use Rattle.limbo_context.specs.declared.context.Origin.TheVariants as origin
use Rattle.limbo_context.specs.Context.{Context}
use Rattle.limbo_stating.specs.limbo_local.Points.{Point}
use Rattle.limbo_typed_sound.specs.Describing.{Begins}
use Rattle.limbo_typed_sound.specs.Laws.{Grows}

-- What a list of the first context has by a number, that of the second has by it. What bodies declare is added to the lists of adts, of
-- module types, of constants, of types, of imported names and of exceptions, and to no other.
pub record Extends (c d : Context) : Type 0 where
  pub adts : Begins c.adts d.adts
  pub modules : Begins c.modules d.modules
  pub interfaces : Begins c.interfaces d.interfaces
  pub globals : d.globals ≡ c.globals
  pub constants : Begins c.constants d.constants
  pub types : Begins c.types d.types
  pub functions : d.functions ≡ c.functions
  pub imports : Begins c.imports d.imports
  pub exceptions : Begins c.exceptions d.exceptions
  pub system : d.system ≡ c.system
  pub fd : d.fd ≡ c.fd

-- the scopes around the innermost one
abbrev pub around : List Scope → List Scope
around [] = []
around (scope ∷ outer) = outer

-- What is imported through a variable of the function, and wasn't before, is a member of the module type that the variable has.
abbrev pub AreThrough : (before behind : List Imported) → List Var → Type 0
AreThrough before behind variables = (n x : ℕ) (i : Imported) → slice_get before n ≡ None → slice_get behind n ≡ Some i
    → i.origin ≡ origin.Local x → HasVariable variables x (ty.Module i.interface)

-- The second point may be behind the first: there are more variables, as many handlers or more, and longer lists; of the scopes the
-- innermost alone may differ; and what is imported meanwhile through variables, is so rightly.
pub record LeadsTo (p q : Point) : Type 0 where
  pub variables : Grows p.body q.body
  pub catches : p.catches ≤ q.catches
  pub context : Extends p.context q.context
  pub scopes : around q.body.scopes ≡ around p.body.scopes
  pub imported : AreThrough p.context.imports q.context.imports q.body.variables
