-- A name's number leads to what is told of the declaration that has the name.
use Rattle.std.specs.Prelude.{◌≡◌, ℕ, List, Option, Some, slice_get}
use Rattle.limbo_types.specs.Types.{Ty}
use Rattle.limbo_typed.specs.Typed.{Var, Exception}
use Rattle.limbo_context.specs.Context.{Valued, Callee}
use Rattle.limbo_entries.specs.Entries.{Entry, IsEntry}
use Rattle.limbo_scope.specs.declared.meaning.Meaning.TheVariants as meaning
use Rattle.limbo_meanings.specs.Meanings.{meaning_of}
use Rattle.limbo_outline.specs.Outline.{ConstantsAre, IsConstant, TypesAre, IsType, GlobalsAre, IsGlobal, FunctionsAre, IsFunction}
use Rattle.limbo_outline.specs.Outline.{ExceptionsAre, IsException, ScopesAre}
use Rattle.limbo_meanings.specs.declared.kind.Kind.{Kind}
use Rattle.limbo_meanings.specs.Meanings.{numbered}
use Rattle.limbo_meanings.specs.Names.{scope_inside}
use Rattle.limbo_scope.specs.declared.meaning.Meaning.{Meaning}
use Rattle.limbo_scope.specs.Scopes.{Scope}
use Rattle.limbo_type_names.specs.Numbers.{number_of}

abbrev pub ConstantOfNumber : Type 0
ConstantOfNumber =
    (es : List Entry) (m k n : ℕ) (e : Entry) (xs : List Valued) → ConstantsAre es m xs → IsEntry es k e
    → meaning_of es m k e ≡ Some (meaning.Constant n) → (v : Valued) × (slice_get xs n ≡ Some v) × IsConstant es m k e v

abbrev pub TypeOfNumber : Type 0
TypeOfNumber =
    (es : List Entry) (m k n : ℕ) (e : Entry) (xs : List Ty) → TypesAre es m xs → IsEntry es k e
    → meaning_of es m k e ≡ Some (meaning.Type n) → (t : Ty) × (slice_get xs n ≡ Some t) × IsType es m k e t

abbrev pub GlobalOfNumber : Type 0
GlobalOfNumber =
    (es : List Entry) (m k n : ℕ) (e : Entry) (xs : List Var) → GlobalsAre es m xs → IsEntry es k e
    → meaning_of es m k e ≡ Some (meaning.Global n) → (v : Var) × (slice_get xs n ≡ Some v) × IsGlobal es m k e v

abbrev pub FunctionOfNumber : Type 0
FunctionOfNumber =
    (es : List Entry) (m k n : ℕ) (e : Entry) (xs : List Callee) → FunctionsAre es m xs → IsEntry es k e
    → meaning_of es m k e ≡ Some (meaning.Function n) → (f : Callee) × (slice_get xs n ≡ Some f) × IsFunction es m k e f

abbrev pub ExceptionOfNumber : Type 0
ExceptionOfNumber =
    (es : List Entry) (m k n : ℕ) (e : Entry) (module_name : List ℕ) (xs : List Exception)
    → ExceptionsAre es m module_name xs → IsEntry es k e
    → meaning_of es m k e ≡ Some (meaning.Exception n) → (x : Exception) × (slice_get xs n ≡ Some x) × IsException es m module_name k e x

-- The scope of the number of an adt, or of a module type, is that of what stands inside it.
abbrev pub ScopeOfNumber : Type 0
ScopeOfNumber =
    (es : List Entry) (m k n : ℕ) (e : Entry) (kind : Kind) (means : List (Option Meaning)) (rows : List (List Scope))
    → ScopesAre es m kind means rows → IsEntry es k e → meaning_of es m k e ≡ Some (numbered kind n)
    → slice_get rows n ≡ Some (scope_inside k means es)

-- An adt, and a module type, means the number by which types name it.
abbrev pub AdtsByNumber : Type 0
AdtsByNumber = (es : List Entry) (m k n : ℕ) (e : Entry) → meaning_of es m k e ≡ Some (meaning.Adt n) → n ≡ number_of es k e

abbrev pub ModulesByNumber : Type 0
ModulesByNumber = (es : List Entry) (m k n : ℕ) (e : Entry) → meaning_of es m k e ≡ Some (meaning.Module n) → n ≡ number_of es k e
