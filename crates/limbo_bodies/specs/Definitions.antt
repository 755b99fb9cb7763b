-- Which functions definitions define, and what these take and answer (Limbo Language Reference, functions, modules and adts).
use Rattle.std.specs.Prelude.{◌≡◌, ℕ, List, Option, None, Some, Bool, true, slice_get}
use Rattle.limbo_tree.specs.Decls as decls
use Rattle.limbo_tree.specs.declared.decl.FnType as code_fn
use Rattle.limbo_types.specs.Types.{FnTy}
use Rattle.limbo_entries.specs.Entries.{Entry, IsEntry, IsMember, Finds}
use Rattle.limbo_naming.specs.Naming.{is_adt}
use Rattle.limbo_type_names.specs.declared.fault.TypeFault.TheVariants as type_fault
use Rattle.limbo_headers.specs.Headers.{IsHeader}
use Rattle.limbo_headers.specs.Refusals.{IsTypeOf, OneFails}
use Rattle.limbo_scope.specs.declared.meaning.Meaning.{Meaning}
use Rattle.limbo_scope.specs.declared.meaning.Meaning.TheVariants as meaning
use Rattle.limbo_context.specs.Context.{Callee}
use Rattle.limbo_meanings.specs.Meanings.{meaning_of}
use Rattle.limbo_outline.specs.Outline.{IsFunction}
use Rattle.limbo_bodies.specs.declared.fault.DefinitionFault.{DefinitionFault}
use Rattle.limbo_bodies.specs.declared.fault.DefinitionFault.TheVariants as fault

-- A definition under this name, with this part behind a dot, is one of the declaration of this number: of what the name is at the top
-- level, or of the member of the adt of that name.
pub data IsOf (es : List Entry) (m : ℕ) (name : List ℕ) : (part : Option (List ℕ)) → ℕ → Type 0 where
  by_name : (k : ℕ) → Finds es m name None k → IsOf es m name None k
  by_adt : (part : List ℕ) (a : ℕ) (outer : Entry) (k : ℕ) → Finds es m name None a → IsEntry es a outer → is_adt outer.row.means ≡ true
      → IsMember es (Some a) part k → IsOf es m name (Some part) k

-- It is one of the function of this number, which the module declares so.
pub record IsOfFunction (es : List Entry) (m : ℕ) (name : List ℕ) (part : Option (List ℕ)) (function : ℕ) (callee : Callee) : Type 0 where
  pub number : ℕ
  pub entry : Entry
  pub is_of : IsOf es m name part number
  pub there : IsEntry es number entry
  pub means : meaning_of es m number entry ≡ Some (meaning.Function function)
  pub declared : IsFunction es m number entry callee

-- A definition takes and answers this by its own words, which stand at the top level.
abbrev pub TakesItself : List Entry → (m : ℕ) → decls.FnType → FnTy → Type 0
TakesItself es m f of = (self_first : Bool) × IsHeader es m None f of self_first

-- A definition defines the function of this number: it takes and answers what the function is declared with.
pub record Defines (es : List Entry) (m : ℕ) (name : List ℕ) (part : Option (List ℕ)) (f : decls.FnType) (function : ℕ) (of : FnTy)
    : Type 0 where
  pub callee : Callee
  pub is_of : IsOfFunction es m name part function callee
  pub takes : TakesItself es m f of
  pub same : callee.of ≡ of

-- ---- refusals

-- It takes or answers another type than the function is declared with.
pub record Differs (es : List Entry) (m : ℕ) (name : List ℕ) (part : Option (List ℕ)) (f : decls.FnType) : Type 0 where
  pub function : ℕ
  pub callee : Callee
  pub of : FnTy
  pub is_of : IsOfFunction es m name part function callee
  pub takes : TakesItself es m f of
  pub other : callee.of ≡ of → ⊥

-- No function of the module is declared under its name.
abbrev pub IsUndeclared : List Entry → (m : ℕ) → (name : List ℕ) → (part : Option (List ℕ)) → Type 0
IsUndeclared es m name part =
    (k n : ℕ) (e : Entry) → IsOf es m name part k → IsEntry es k e → meaning_of es m k e ≡ Some (meaning.Function n) → ⊥

-- Why a definition defines no function: `f` is what the code has of what it takes and answers.
abbrev pub Fails : List Entry → (m : ℕ) → (name : List ℕ) → (part : Option (List ℕ)) → (f : code_fn.FnType) → decls.FnType → DefinitionFault
    → Type 0
Fails es m name part f of fault.NoMemory = Unit {0}
Fails es m name part f of (fault.Unknown at) = OneFails es m None (IsTypeOf f) (type_fault.Unknown at)
Fails es m name part f of (fault.NotAType at) = OneFails es m None (IsTypeOf f) (type_fault.NotAType at)
Fails es m name part f of fault.Undeclared = IsUndeclared es m name part
Fails es m name part f of fault.Differs = Differs es m name part of

-- ---- by what the names of all declarations mean

abbrev pub function_in : Option Meaning → Option ℕ
function_in (Some (meaning.Function n)) = Some n
function_in _ = None

abbrev pub function_at : List (Option Meaning) → ℕ → Option ℕ
function_at means k = elim (slice_get means k) [ None ↦ None | Some x ↦ function_in x ]
