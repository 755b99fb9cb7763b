-- What is told of the declarations to which names lead (Limbo Language Reference, declarations and scope).
use Rattle.std.specs.Prelude.{◌≡◌, ℕ, List, Option, None, Some, take, slice_get}
use Rattle.limbo_tree.specs.Types as tree
use Rattle.limbo_tree.specs.Exprs.{Expr}
use Rattle.limbo_tree.specs.Decls.{FnType}
use Rattle.limbo_types.specs.Types.{Ty, Byte, Int, Big, Chars}
use Rattle.limbo_types.specs.View.{tys_of}
use Rattle.limbo_values.specs.declared.number.Number.{Number}
use Rattle.limbo_values.specs.declared.number.Number.TheVariants as number
use Rattle.limbo_values.specs.Numbers.{value_of}
use Rattle.limbo_constants.specs.declared.constant.Constant as source
use Rattle.limbo_constants.specs.declared.constant.Constant.TheVariants as known
use Rattle.limbo_typed.specs.declared.stmt.Constant as typed
use Rattle.limbo_typed.specs.declared.stmt.Constant.TheVariants as constant
use Rattle.limbo_typed.specs.Typed.{Var, Exception}
use Rattle.limbo_context.specs.Context.{Valued, Callee}
use Rattle.limbo_declarations.specs.Rows as rows
use Rattle.limbo_entries.specs.Entries.{Entry, IsEntry}
use Rattle.limbo_scope.specs.declared.meaning.Meaning.{Meaning}
use Rattle.limbo_scope.specs.declared.meaning.Meaning.TheVariants as meaning
use Rattle.limbo_type_names.specs.Means.{Means, AllMean, Stands}
use Rattle.limbo_headers.specs.Headers.{IsHeader}
use Rattle.limbo_constant_values.specs.Values.{HasValue, Comes}
use Rattle.limbo_meanings.specs.declared.kind.Kind.{Kind}
use Rattle.limbo_meanings.specs.declared.kind.Kind.TheVariants as kind
use Rattle.limbo_meanings.specs.Kinds.{place, has_kind}
use Rattle.limbo_meanings.specs.Meanings.{meaning_of}
use Rattle.limbo_meanings.specs.Listed.{Listed}
use Rattle.limbo_meanings.specs.Names.{scope_inside}
use Rattle.limbo_scope.specs.Scopes.{Scope}

-- what is told of those among these declarations that are of a kind
abbrev pub ListedTo : {A : Type 0} → (all : List Entry) → (m : ℕ) → Kind → (ℕ → Entry → A → Type 0) → List Entry → List A → Type 0
ListedTo all m k is es xs = Listed (has_kind all m (place k)) is 0 es xs

-- ---- constants

abbrev pub type_of_number : Number → Ty
type_of_number (number.Byte a) = Byte
type_of_number (number.Int a) = Int
type_of_number (number.Big a) = Big

abbrev pub type_of_constant : source.Constant → Ty
type_of_constant (known.Number a) = type_of_number a
type_of_constant (known.Chars s) = Chars

abbrev pub value_of_constant : source.Constant → typed.Constant
value_of_constant (known.Number a) = constant.Number (value_of a)
value_of_constant (known.Chars s) = constant.Chars s

abbrev pub valued : source.Constant → Valued
valued c = record { ty = type_of_constant c; value = value_of_constant c }

-- The constant of this number, with the type of its value.
abbrev pub IsConstant : List Entry → (m : ℕ) → ℕ → Entry → Valued → Type 0
IsConstant es m k e v = (c : source.Constant) × HasValue es m k c × (v ≡ valued c)

abbrev pub ConstantsTo : List Entry → (m : ℕ) → (n : ℕ) → List Valued → Type 0
ConstantsTo es m n xs = ListedTo es m kind.Constant (IsConstant es m) (take n es) xs

abbrev pub ConstantsAre : List Entry → (m : ℕ) → List Valued → Type 0
ConstantsAre es m xs = ListedTo es m kind.Constant (IsConstant es m) es xs

-- ---- types

-- What the name by `type` of this number stands for.
abbrev pub IsType : List Entry → (m : ℕ) → ℕ → Entry → Ty → Type 0
IsType es m k e t = Stands es m k t

abbrev pub TypesTo : List Entry → (m : ℕ) → (n : ℕ) → List Ty → Type 0
TypesTo es m n xs = ListedTo es m kind.Type (IsType es m) (take n es) xs

abbrev pub TypesAre : List Entry → (m : ℕ) → List Ty → Type 0
TypesAre es m xs = ListedTo es m kind.Type (IsType es m) es xs

-- ---- variables of the module

-- A variable has the type that is written, or that of its initial value.
pub data HasType (es : List Entry) (m : ℕ) (e : Entry) : Ty → Type 0 where
  written : (t : tree.Ty) (value : Option Expr) (u : Ty) → e.row.means ≡ rows.Variable t value → Means es m e.within t u → HasType es m e u
  inferred : (expr : Expr) (c : source.Constant) → e.row.means ≡ rows.Inferred expr → Comes es m e.within None expr c
      → HasType es m e (type_of_constant c)

pub record IsGlobal (es : List Entry) (m : ℕ) (k : ℕ) (e : Entry) (v : Var) : Type 0 where
  pub named : v.name ≡ e.row.name
  pub typed : HasType es m e v.ty

abbrev pub GlobalsTo : List Entry → (m : ℕ) → (n : ℕ) → List Var → Type 0
GlobalsTo es m n xs = ListedTo es m kind.Global (IsGlobal es m) (take n es) xs

abbrev pub GlobalsAre : List Entry → (m : ℕ) → List Var → Type 0
GlobalsAre es m xs = ListedTo es m kind.Global (IsGlobal es m) es xs

-- what is known of the declaration of a number
abbrev pub known_at : List (Option source.Constant) → ℕ → Option source.Constant
known_at values k = elim (slice_get values k) [ None ↦ None | Some known ↦ known ]

-- These are known of what initial values come to.
abbrev pub AreInitial : List Entry → (m : ℕ) → List (Option source.Constant) → Type 0
AreInitial es m values =
    (k : ℕ) (e : Entry) (expr : Expr) (c : source.Constant) → IsEntry es k e → e.row.means ≡ rows.Inferred expr
    → known_at values k ≡ Some c → Comes es m e.within None expr c

-- The variable of this number is declared by a value of which nothing is known.
pub record HasNoType (es : List Entry) (values : List (Option source.Constant)) (k : ℕ) : Type 0 where
  pub entry : Entry
  pub expr : Expr
  pub there : IsEntry es k entry
  pub is : entry.row.means ≡ rows.Inferred expr
  pub unknown : known_at values k ≡ None

-- ---- functions

abbrev pub owner_in : Option Meaning → Option ℕ
owner_in (Some (meaning.Adt n)) = Some n
owner_in _ = None

-- The number of the adt in which a function stands: none where it stands in no adt.
abbrev pub owner_of : List Entry → (m : ℕ) → Option ℕ → Option ℕ
owner_of es m None = None
owner_of es m (Some a) = elim (slice_get es a) [ None ↦ None | Some e ↦ owner_in (meaning_of es m a e) ]

-- A function of the module: what it takes and answers, and the adt of a method.
pub record IsFunction (es : List Entry) (m : ℕ) (k : ℕ) (e : Entry) (f : Callee) : Type 0 where
  pub of : FnType
  pub is : e.row.means ≡ rows.Function of
  pub header : IsHeader es m e.within of f.of f.takes_self
  pub owner : f.owner ≡ owner_of es m e.within

abbrev pub FunctionsTo : List Entry → (m : ℕ) → (n : ℕ) → List Callee → Type 0
FunctionsTo es m n xs = ListedTo es m kind.Function (IsFunction es m) (take n es) xs

abbrev pub FunctionsAre : List Entry → (m : ℕ) → List Callee → Type 0
FunctionsAre es m xs = ListedTo es m kind.Function (IsFunction es m) es xs

-- ---- exceptions

-- A declared exception, with the name of the implemented module and the types of its values.
pub record IsException (es : List Entry) (m : ℕ) (module_name : List ℕ) (k : ℕ) (e : Entry) (x : Exception) : Type 0 where
  pub values : tree.Tys
  pub is : e.row.means ≡ rows.Exception values
  pub of_module : x.module_name ≡ module_name
  pub named : x.name ≡ e.row.name
  pub mean : AllMean es m e.within values (tys_of x.values)

abbrev pub ExceptionsTo : List Entry → (m : ℕ) → (module_name : List ℕ) → (n : ℕ) → List Exception → Type 0
ExceptionsTo es m module_name n xs = ListedTo es m kind.Exception (IsException es m module_name) (take n es) xs

abbrev pub ExceptionsAre : List Entry → (m : ℕ) → (module_name : List ℕ) → List Exception → Type 0
ExceptionsAre es m module_name xs = ListedTo es m kind.Exception (IsException es m module_name) es xs

-- ---- scopes of adts, and of module types

-- The scope of what stands inside the declaration of this number, by what the names of all declarations mean.
abbrev pub IsScopeOf : List (Option Meaning) → List Entry → ℕ → Entry → List Scope → Type 0
IsScopeOf means es k e row = row ≡ scope_inside k means es

abbrev pub ScopesTo : List Entry → (m : ℕ) → Kind → List (Option Meaning) → (n : ℕ) → List (List Scope) → Type 0
ScopesTo es m k means n rows = ListedTo es m k (IsScopeOf means es) (take n es) rows

abbrev pub ScopesAre : List Entry → (m : ℕ) → Kind → List (Option Meaning) → List (List Scope) → Type 0
ScopesAre es m k means rows = ListedTo es m k (IsScopeOf means es) es rows
