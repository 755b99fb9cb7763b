-- What the lists of a context speak of is named in it.
use Rattle.std.specs.Prelude.{◌≡◌, ◌<◌, ℕ, List, length, map, Option, None, Some, slice_get}
use Rattle.limbo_types.specs.Types.{Ty, FnTy}
use Rattle.limbo_layout.specs.Adts.{Def, Has, Names, field_types}
use Rattle.limbo_typed.specs.Typed.{Var, Interface, Exception, Function, Module}
use Rattle.limbo_typed.specs.Fitting.{IsConstant}
use Rattle.limbo_typed.specs.Sound.{Each, IsSettled}
use Rattle.limbo_scope.specs.Scopes.{Scope}
use Rattle.limbo_context.specs.Context.{Context, Callee}
use Rattle.limbo_typed_sound.specs.Describing.{IsThrough}
use Rattle.limbo_stated_sound.specs.Standing.{IsOutside}

-- A type of the context: each number in it names something there, and no `nil` in it is open.
abbrev pub IsNamedIn : Context → Ty → Type 0
IsNamedIn c t = Names c.adts (length c.modules) t × IsSettled t

-- what a function takes and answers
abbrev pub OfFunction : (Ty → Type 0) → FnTy → Type 0
OfFunction P f = Each P f.args × P f.answer

-- This holds of the types of globals, of what functions take and answer, here and in module types, and of what exceptions carry.
pub record HoldsOf (P : Ty → Type 0) (variables : List Var) (callees : List Callee) (module_types : List Interface)
    (raised : List Exception) : Type 0 where
  pub globals : Each (λ v. P v.ty) variables
  pub functions : Each (λ f. OfFunction P f.of) callees
  pub interfaces : Each (λ i. Each (λ s. OfFunction P s.of) i.functions) module_types
  pub exceptions : Each (λ e. Each P e.values) raised

-- The names of the module types stand beside them.
pub record IsNamedThroughout (c : Context) : Type 0 where
  pub modules : map (λ i. i.name) c.interfaces ≡ c.modules
  pub fields : (n : ℕ) (d : Def) (t : Ty) → slice_get c.adts n ≡ Some d → Has (field_types d) t → IsNamedIn c t
  pub lists : HoldsOf (IsNamedIn c) c.globals c.functions c.interfaces c.exceptions
  pub types : Each IsSettled c.types

-- ---- modules that are made of a context

-- The module has the lists of the context, and these functions.
pub record IsMadeOf (m : Module) (c : Context) (checked : List Function) : Type 0 where
  pub adts : m.adts ≡ c.adts
  pub modules : m.modules ≡ c.modules
  pub interfaces : m.interfaces ≡ c.interfaces
  pub globals : m.globals ≡ c.globals
  pub exceptions : m.exceptions ≡ c.exceptions
  pub functions : m.functions ≡ checked
  pub system : m.system ≡ c.system

abbrev pub OwnerIn : Context → Option ℕ → Type 0
OwnerIn c None = Unit {0}
OwnerIn c (Some n) = n < length c.adts

-- What a module's source has given before its functions are checked: what the lists speak of is named; constants are of their types, and
-- imported names of the module types that the globals have through which they come; a method's adt, that of `FD`, and the
-- module type of `Sys` are there.
pub record IsReady (scopes : List Scope) (c : Context) : Type 0 where
  pub named : IsNamedThroughout c
  pub constants : Each (λ v. IsConstant v.ty v.value) c.constants
  pub imports : Each (IsThrough c.globals) c.imports
  pub owners : Each (λ f. OwnerIn c f.owner) c.functions
  pub fd : (n : ℕ) → c.fd ≡ Some n → n < length c.adts
  pub system : (n : ℕ) → c.system ≡ Some n → n < length c.interfaces
  pub outside : IsOutside c scopes
