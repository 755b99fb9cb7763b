-- The built-in module of the system's calls, its file descriptors and its prints (Limbo Language Reference, Sys).
use Rattle.std.specs.Prelude.{◌≡◌, ◌<◌, ℕ, nat_eq, Bool, true, false, ◌==◌, ◌&&◌, if◌then◌else◌, List, Option, None, Some, slice_get, codes}
use Rattle.std.specs.Cmp.Lexicographic.{pointwise}
use Rattle.limbo_declarations.specs.Rows as rows
use Rattle.limbo_declarations.specs.Rows.{Declared}
use Rattle.limbo_entries.specs.Entries.{Entry, IsEntry}
use Rattle.limbo_scope.specs.declared.meaning.Meaning.{Meaning}
use Rattle.limbo_scope.specs.declared.meaning.Meaning.TheVariants as meaning

abbrev pub is_same : List ℕ → List ℕ → Bool
is_same = pointwise nat_eq

abbrev pub is_module : Declared → Bool
is_module (rows.Module ms) = true
is_module _ = false

abbrev pub is_adt : Declared → Bool
is_adt (rows.Adt ms pick) = true
is_adt _ = false

abbrev pub is_function : Declared → Bool
is_function (rows.Function f) = true
is_function _ = false

-- It stands inside the declaration of this number, where there is one.
abbrev pub stands_in : Option ℕ → Option ℕ → Bool
stands_in None within = false
stands_in (Some a) None = false
stands_in (Some a) (Some b) = a == b

-- The module that the built-in text of the system declares: it is known by its text, whatever its name is.
abbrev pub is_system : Entry → Bool
is_system e = is_module e.row.means && is_same e.row.path (codes "sys.m")

-- The adt of file descriptors of the module of this number.
abbrev pub is_fd : Option ℕ → Entry → Bool
is_fd system e = is_adt e.row.means && stands_in system e.within && is_same e.row.name (codes "FD")

-- The first declaration for which the test holds has this number.
pub record IsFirst (test : Entry → Bool) (es : List Entry) (k : ℕ) : Type 0 where
  pub entry : Entry
  pub there : IsEntry es k entry
  pub holds : test entry ≡ true
  pub none_before : (j : ℕ) (e : Entry) → j < k → IsEntry es j e → test e ≡ false

abbrev pub HasNone : (Entry → Bool) → List Entry → Type 0
HasNone test es = (k : ℕ) (e : Entry) → IsEntry es k e → test e ≡ false

-- ---- their numbers

abbrev pub module_in : Option Meaning → Option ℕ
module_in (Some (meaning.Module n)) = Some n
module_in _ = None

abbrev pub adt_in : Option Meaning → Option ℕ
adt_in (Some (meaning.Adt n)) = Some n
adt_in _ = None

-- what is told of the declaration of a number, by the meanings of all
abbrev pub number_at : (Option Meaning → Option ℕ) → List (Option Meaning) → Option ℕ → Option ℕ
number_at told means None = None
number_at told means (Some k) = elim (slice_get means k) [ None ↦ None | Some x ↦ told x ]

-- The number of a declaration among the module types, and among the adts.
abbrev pub module_number : List (Option Meaning) → Option ℕ → Option ℕ
module_number means k = number_at module_in means k

abbrev pub adt_number : List (Option Meaning) → Option ℕ → Option ℕ
adt_number means k = number_at adt_in means k

-- ---- prints

-- The prints by their names, in their order.
abbrev pub print_named : List ℕ → Option ℕ
print_named name =
    if is_same name (codes "print") then Some 0
    else if is_same name (codes "fprint") then Some 1
    else if is_same name (codes "sprint") then Some 2
    else None

-- Which print a declaration is, if the module of the system's calls has this number.
abbrev pub print_of : (system : Option ℕ) → Entry → Option ℕ
print_of system e = if stands_in system e.within then print_named e.row.name else None
