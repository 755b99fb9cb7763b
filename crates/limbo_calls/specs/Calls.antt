-- Calls of functions, and values of adts (Limbo Language Reference, expressions), as they are made of typed parts.
use Rattle.std.specs.Prelude.{ℕ, ◌≡◌, List, [], ◌∷◌, ◌++◌, Option, None, Some, slice_get}
use Rattle.limbo_types.specs.Types.{Ty, FnTy, Adt, Module}
use Rattle.limbo_layout.specs.Adts.{Def, Variant, types_of}
use Rattle.limbo_typed.specs.declared.operation.Operation.TheVariants as op
use Rattle.limbo_typed.specs.Typed.{Expr, Of, Exprs, Apply, Call, CallThrough}
use Rattle.limbo_typed.specs.Sound.{type_of}
use Rattle.limbo_allowed.specs.Allowed.{IsUserModule}
use Rattle.limbo_arguments.specs.limbo_standing.Standing.{SettleEach}

-- Arguments where these parameters are asked for: each is what it is there.
abbrev pub Arguments : List Ty → Exprs → Exprs → Type 0
Arguments params args values = SettleEach params args values

-- `f(..)`: a call of a function of the module.
pub record Calls (function : ℕ) (of : FnTy) (args : Exprs) (e : Expr) : Type 0 where
  pub values : Exprs
  pub arguments : Arguments of.args args values
  pub gives : e ≡ Of of.answer (Call function values)

-- no parameter is of a user's module type
abbrev pub PassesNone : (system : Option ℕ) → List Ty → Type 0
PassesNone system [] = Unit {0}
PassesNone system (t ∷ ts) = (IsUserModule system t → ⊥) × PassesNone system ts

-- `m->f(..)`: a call through a module's value, of a function by its place in the module's type. Values of a user's module type are not
-- passed so.
pub record CallsThrough (system : Option ℕ) (instance : Expr) (interface function : ℕ) (of : FnTy) (args : Exprs) (e : Expr) : Type 0 where
  pub through : type_of instance ≡ Module interface
  pub values : Exprs
  pub arguments : Arguments of.args args values
  pub passes_none : PassesNone system of.args
  pub gives : e ≡ Of of.answer (CallThrough instance interface function values)

-- The types of the fields of an adt's value in order: the common ones, and then those of its variant. A pick adt has values of its
-- variants alone, and any other adt has no variant.
abbrev pub HasFields : Def → (variant : Option ℕ) → List Ty → Type 0
HasFields d None ts = (d.picks ≡ []) × (ts ≡ types_of d.fields)
HasFields d (Some v) ts = (w : Variant) × (slice_get d.picks v ≡ Some w) × (ts ≡ types_of d.fields ++ types_of w.fields)

pub record FieldsOf (defs : List Def) (adt : ℕ) (variant : Option ℕ) (ts : List Ty) : Type 0 where
  pub def : Def
  pub there : slice_get defs adt ≡ Some def
  pub fields : HasFields def variant ts

-- `T(..)` and `T.A(..)`: a value of an adt, or of a variant of a pick adt, of its fields.
pub record Constructs (defs : List Def) (adt : ℕ) (variant : Option ℕ) (args : Exprs) (e : Expr) : Type 0 where
  pub types : List Ty
  pub fields : FieldsOf defs adt variant types
  pub values : Exprs
  pub arguments : Arguments types args values
  pub gives : e ≡ Of (Adt adt) (Apply (op.Adt adt variant) values)
