-- What is known where a function's body is checked (Limbo Language Reference, scope and modules).
use Rattle.std.specs.Prelude.{ℕ, ◌≡◌, ◌<◌, List, [], ◌∷◌, ◌++◌, length, Option, None, Some, slice_get, Bool}
use Rattle.limbo_types.specs.Types.{Ty, FnTy}
use Rattle.limbo_layout.specs.Adts.{Def, Variant}
use Rattle.limbo_scope.specs.declared.meaning.Meaning.{Meaning}
use Rattle.limbo_scope.specs.declared.meaning.Meaning.TheVariants as meaning
use Rattle.limbo_scope.specs.declared.scopes.ScopeFault.{ScopeFault}
use Rattle.limbo_scope.specs.declared.scopes.ScopeFault.TheVariants as scope_fault
use Rattle.limbo_scope.specs.Scopes.{Scope, declared, seen}
use Rattle.limbo_typed.specs.declared.stmt.Constant.{Constant}
use Rattle.limbo_typed.specs.Typed.{Var, Interface, Exception}
use Rattle.limbo_context.specs.declared.context.Imported.{Imported}
use Rattle.limbo_context.specs.declared.body.BodyFault.{BodyFault}
use Rattle.limbo_context.specs.declared.body.BodyFault.TheVariants as fault

pub record Valued : Type 0 where
  pub ty : Ty
  pub value : Constant

pub record Callee : Type 0 where
  pub of : FnTy
  pub owner : Option ℕ
  pub takes_self : Bool

-- The lists that names lead to: a name means a kind and a number, which is the place in the list of its kind. The names of an adt's
-- members stand beside the adts, those of a module's beside the module types.
pub record Context : Type 0 where
  pub adts : List Def
  pub modules : List (List ℕ)
  pub members : List (List Scope)
  pub interfaces : List Interface
  pub exports : List (List Scope)
  pub globals : List Var
  pub constants : List Valued
  pub types : List Ty
  pub functions : List Callee
  pub imports : List Imported
  pub exceptions : List Exception
  pub system : Option ℕ
  pub fd : Option ℕ

-- Where a body has come to: what names mean there, and the variables of the function so far.
pub record Body : Type 0 where
  pub scopes : List Scope
  pub variables : List Var

-- one more variable, declared in the innermost scope
abbrev pub with_variable : List ℕ → Ty → Body → Body
with_variable name t b = record {
  scopes = declared name (meaning.Variable (length b.variables)) b.scopes;
  variables = b.variables ++ (record { name = name; ty = t }) ∷ [];
}

abbrev pub of_scope : ScopeFault → BodyFault
of_scope scope_fault.NoMemory = fault.NoMemory
of_scope scope_fault.Twice = fault.Twice

-- ---- members

-- The first variant of this name among these is at this place.
pub record IsFirstNamed (picks : List Variant) (name : List ℕ) (v : ℕ) : Type 0 where
  pub variant : Variant
  pub there : slice_get picks v ≡ Some variant
  pub named : variant.name ≡ name
  pub first : (u : ℕ) (other : Variant) → u < v → slice_get picks u ≡ Some other → other.name ≡ name → ⊥

abbrev pub named_in : List (List Scope) → ℕ → List ℕ → Option Meaning
named_in rows n name = elim (slice_get rows n) [ None ↦ None | Some scopes ↦ seen name scopes ]

-- The member of this name of a module type, and of an adt, means this.
abbrev pub Exports : Context → (interface : ℕ) → List ℕ → Meaning → Type 0
Exports c i name m = named_in c.exports i name ≡ Some m

abbrev pub HasMember : Context → (adt : ℕ) → List ℕ → Meaning → Type 0
HasMember c a name m = named_in c.members a name ≡ Some m

-- Adt a has a variant of this name, and the first such is of this number.
pub record HasVariantAt (defs : List Def) (a : ℕ) (name : List ℕ) (v : ℕ) : Type 0 where
  pub def : Def
  pub there : slice_get defs a ≡ Some def
  pub named : IsFirstNamed def.picks name v

abbrev pub HasVariantNamed : Context → ℕ → List ℕ → ℕ → Type 0
HasVariantNamed c a name v = HasVariantAt c.adts a name v
