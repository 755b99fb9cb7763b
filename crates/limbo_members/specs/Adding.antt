-- What members add to an adt, as the code gives it.
use Rattle.std.specs.Prelude.{◌≡◌, ℕ, Bool, List, Option, Some, take, slice_get}
use Rattle.limbo_tree.specs.Decls as decls
use Rattle.limbo_tree.specs.Decls.{Member, AdtMember, Members}
use Rattle.limbo_layout.specs.View.{view_fields, view_defs}
use Rattle.limbo_causes.specs.Causes.{Cause}
use Rattle.limbo_context.specs.Context.{Context, Body}
use Rattle.limbo_locals.specs.limbo_local.Points.{Point}
use Rattle.limbo_locals.specs.limbo_local.Members.{Inside, showing_adt, AddsToAdt, AllAddToAdt}
use Rattle.limbo_locals.specs.limbo_local.Failing.{FailsInAdt, FailsAllInAdt}
use Rattle.limbo_locals.specs.Anywhere.{at}
use Rattle.limbo_members.specs.declared.given.Given as code_given

abbrev pub view_given : code_given.Given → Inside
view_given g = record { fields = view_fields g.fields.items; adts = view_defs g.adts.items }

-- The row of an adt shows the innermost scope.
abbrev pub IsShown : (adt : ℕ) → Context → Body → Type 0
IsShown a c b = slice_get c.members a ≡ Some (take 1 b.scopes)

-- A member gives an adt this, and is seen behind it.
abbrev pub AddsMember : (in_module : Bool) → (adt : ℕ) → Member → Context → Body → Inside → Context → Body → Type 0
AddsMember m a x c b g c' b' = (n : ℕ) → (r : Point) × AddsToAdt m x (at c b n) g r × (at c' b' n ≡ showing_adt a r)

abbrev pub AddsMembers : (in_module : Bool) → (adt : ℕ) → Members → Context → Body → Inside → Context → Body → Type 0
AddsMembers m a xs c b g c' b' = (n : ℕ) → AllAddToAdt m a xs (at c b n) g (at c' b' n)

-- An adt adds this, not seen behind it yet.
abbrev pub AddsAdt : (in_module : Bool) → List ℕ → Members → Option (List decls.Variant) → Context → Body → Inside → Context → Body
    → Type 0
AddsAdt m name ms pick c b g c' b' = (n : ℕ) → AddsToAdt m (AdtMember name ms pick) (at c b n) g (at c' b' n)

abbrev pub FailsMember : (in_module : Bool) → Member → Context → Body → Cause → Type 0
FailsMember m x c b k = (n : ℕ) → FailsInAdt m x (at c b n) k

abbrev pub FailsMembers : (in_module : Bool) → (adt : ℕ) → Members → Context → Body → Cause → Type 0
FailsMembers m a xs c b k = (n : ℕ) → FailsAllInAdt m a xs (at c b n) k
