-- What members add to a module that a body declares, as the code gives it.
use Rattle.std.specs.Prelude.{◌≡◌, ◌<◌, ◌++◌, ◌∷◌, [], ℕ, List, map, length, Some, take, slice_get}
use Rattle.limbo_types.specs.Types.{FnTy}
use Rattle.limbo_typed.specs.Typed.{Signature}
use Rattle.limbo_tree.specs.Decls.{Member, Members}
use Rattle.limbo_scope.specs.Scopes.{entered}
use Rattle.limbo_causes.specs.Causes.{Cause}
use Rattle.limbo_context.specs.Context.{Context, Body}
use Rattle.limbo_locals.specs.limbo_local.Points.{Point}
use Rattle.limbo_locals.specs.limbo_local.Members.{showing_module, AddsToModule, AllAddToModule}
use Rattle.limbo_locals.specs.limbo_local.Failing.{FailsInModule, FailsAllInModule}
use Rattle.limbo_locals.specs.Anywhere.{at}

-- functions of these names, all of one type
abbrev pub signatures_of : List (List ℕ) → FnTy → List Signature
signatures_of names of = map (λ n. record { name = n; of = of }) names

-- the lists of module types have one more of this name
abbrev pub begun_module : List ℕ → Context → Context
begun_module n c = record c {
  modules = c.modules ++ n ∷ [];
  interfaces = c.interfaces ++ (record { name = n; functions = [] }) ∷ [];
  exports = c.exports ++ entered [] ∷ [];
}

-- The module of a number is there, and what it exports shows the innermost scope.
pub record IsBegun (i : ℕ) (c : Context) (b : Body) : Type 0 where
  pub there : i < length c.interfaces
  pub shown : slice_get c.exports i ≡ Some (take 1 b.scopes)

-- A member adds this to the module of a number, and is seen behind it.
abbrev pub AddsMember : (interface : ℕ) → Member → Context → Body → Context → Body → Type 0
AddsMember i x c b c' b' = (n : ℕ) → (r : Point) × AddsToModule i x (at c b n) r × (at c' b' n ≡ showing_module i r)

abbrev pub AddsMembers : (interface : ℕ) → Members → Context → Body → Context → Body → Type 0
AddsMembers i xs c b c' b' = (n : ℕ) → AllAddToModule i xs (at c b n) (at c' b' n)

abbrev pub FailsMember : (interface : ℕ) → Member → Context → Body → Cause → Type 0
FailsMember i x c b k = (n : ℕ) → FailsInModule i x (at c b n) k

abbrev pub FailsMembers : (interface : ℕ) → Members → Context → Body → Cause → Type 0
FailsMembers i xs c b k = (n : ℕ) → FailsAllInModule i xs (at c b n) k
