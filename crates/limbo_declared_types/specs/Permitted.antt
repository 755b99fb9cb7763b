-- Whether declarations write types that values may have (Limbo Language Reference, types and declarations; Sys).
use Rattle.std.specs.Prelude.{◌≡◌, ◌<◌, ℕ, List, length, Option, Some, Bool, true, slice_get}
use Rattle.std.specs.List.{Contains}
use Rattle.limbo_tree.specs.Types as tree
use Rattle.limbo_tree.specs.Exprs.{Expr}
use Rattle.limbo_tree.specs.Decls as decls
use Rattle.limbo_types.specs.Types.{Ty, Tys, FnTy, Tuple}
use Rattle.limbo_types.specs.View.{tys_of}
use Rattle.limbo_layout.specs.Adts.{Def, parts}
use Rattle.limbo_typed.specs.Sound.{Each}
use Rattle.limbo_refusals.specs.Refusals.{Refusal, ModuleValue}
use Rattle.limbo_allowed.specs.Allowed.{IsUserModule, RefusesType}
use Rattle.limbo_declarations.specs.Rows as rows
use Rattle.limbo_entries.specs.Entries.{Entry, IsEntry}
use Rattle.limbo_naming.specs.Naming.{is_adt}
use Rattle.limbo_type_names.specs.Numbers.{number_of}
use Rattle.limbo_type_names.specs.Means.{Means, AllMean}
use Rattle.limbo_headers.specs.Headers.{IsHeader}
use Rattle.limbo_context.specs.Context.{Context}
use Rattle.limbo_permits.specs.Permits.{Permits, ForbidsType}
use Rattle.limbo_members.specs.Standing.{IsAllowedIn}

-- ---- functions

-- A function may take and answer this: values may have the types of its arguments and of its answer, and it answers no value of a user's
-- module. A function without an answer answers `Nothing`, of which both hold.
pub record MayTake (c : Context) (of : FnTy) : Type 0 where
  pub args : Each (λ t. Permits c t) of.args
  pub answer : Permits c of.answer
  pub no_module : IsUserModule c.system of.answer → ⊥

-- Why it may not: by an argument, by the answer, by a value of a user's module that it would answer.
pub data ForbidsFunction (c : Context) (of : FnTy) (r : Refusal) : Type 0 where
  an_argument : (t : Ty) → Contains of.args t → ForbidsType c t r → ForbidsFunction c of r
  an_answer : ForbidsType c of.answer r → ForbidsFunction c of r
  a_module : IsUserModule c.system of.answer → r ≡ ModuleValue → ForbidsFunction c of r

-- ---- adts

-- Why an adt's parts together have no type that values may have.
abbrev pub ForbidsAdt : Context → Def → Refusal → Type 0
ForbidsAdt c d r = RefusesType c.adts (length c.modules) c.system c.fd (Tuple (tys_of (parts d))) r

-- ---- declarations

-- What the declaration of a number writes is permitted: values may have the types of variables, of fields and of an exception's values,
-- what functions take and answer, and what names by `type` stand for; and an adt's parts together are allowed, where the context has it.
-- It is said of each type that a written type means.
pub record IsPermittedAt (es : List Entry) (m : ℕ) (c : Context) (k : ℕ) (e : Entry) : Type 0 where
  pub variable : (t : tree.Ty) (value : Option Expr) (u : Ty) → e.row.means ≡ rows.Variable t value → Means es m e.within t u → Permits c u
  pub function : (f : decls.FnType) (of : FnTy) (self_first : Bool) → e.row.means ≡ rows.Function f
      → IsHeader es m e.within f of self_first → MayTake c of
  pub exception : (ts : tree.Tys) (us : Tys) → e.row.means ≡ rows.Exception ts → AllMean es m e.within ts us → Permits c (Tuple us)
  pub type_name : (t : tree.Ty) (u : Ty) → e.row.means ≡ rows.Alias t → Means es m e.within t u → Permits c u
  pub adt : (d : Def) → is_adt e.row.means ≡ true → slice_get c.adts (number_of es k e) ≡ Some d → IsAllowedIn c d

-- What each declaration writes is.
abbrev pub AllPermitted : List Entry → (m : ℕ) → Context → Type 0
AllPermitted es m c = (k : ℕ) (e : Entry) → IsEntry es k e → IsPermittedAt es m c k e

-- What each of the first declarations writes is, so many of them.
abbrev pub PermittedTo : List Entry → (m : ℕ) → Context → (n : ℕ) → Type 0
PermittedTo es m c n = (k : ℕ) (e : Entry) → k < n → IsEntry es k e → IsPermittedAt es m c k e

-- The declaration of this number writes what isn't: a variable's or a field's type, what a function takes or answers, an exception's
-- values, a name by `type`, an adt's parts.
pub data IsForbiddenAt (es : List Entry) (m : ℕ) (c : Context) (k : ℕ) (r : Refusal) : Type 0 where
  a_variable : (e : Entry) (t : tree.Ty) (value : Option Expr) (u : Ty) → IsEntry es k e → e.row.means ≡ rows.Variable t value
      → Means es m e.within t u → ForbidsType c u r → IsForbiddenAt es m c k r
  a_function : (e : Entry) (f : decls.FnType) (of : FnTy) (self_first : Bool) → IsEntry es k e → e.row.means ≡ rows.Function f
      → IsHeader es m e.within f of self_first → ForbidsFunction c of r → IsForbiddenAt es m c k r
  an_exception : (e : Entry) (ts : tree.Tys) (us : Tys) → IsEntry es k e → e.row.means ≡ rows.Exception ts → AllMean es m e.within ts us
      → ForbidsType c (Tuple us) r → IsForbiddenAt es m c k r
  a_type_name : (e : Entry) (t : tree.Ty) (u : Ty) → IsEntry es k e → e.row.means ≡ rows.Alias t → Means es m e.within t u
      → ForbidsType c u r → IsForbiddenAt es m c k r
  an_adt : (e : Entry) (d : Def) → IsEntry es k e → is_adt e.row.means ≡ true → slice_get c.adts (number_of es k e) ≡ Some d
      → ForbidsAdt c d r → IsForbiddenAt es m c k r
