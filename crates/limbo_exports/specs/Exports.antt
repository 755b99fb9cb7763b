-- What the members of a module mean to those who come through the module (Limbo Language Reference, modules).
use Rattle.std.specs.Prelude.{◌≡◌, ◌+◌, ℕ, Bool, true, false, ◌&&◌, List, Option, None, Some, take, count_by, slice_get}
use Rattle.limbo_declarations.specs.Rows as rows
use Rattle.limbo_declarations.specs.Rows.{Declared}
use Rattle.limbo_entries.specs.Entries.{Entry, IsEntry}
use Rattle.limbo_scope.specs.declared.meaning.Meaning.{Meaning}
use Rattle.limbo_scope.specs.declared.meaning.Meaning.TheVariants as meaning
use Rattle.limbo_meanings.specs.Names.{same_scope}
use Rattle.limbo_meanings.specs.Meanings.{meaning_of}
use Rattle.limbo_exports.specs.System.{is_function, print_of}

abbrev pub is_none : Option ℕ → Bool
is_none None = true
is_none (Some a) = false

-- A function that stands in the scope, and is no print.
abbrev pub is_called : (system : Option ℕ) → (scope : Option ℕ) → Entry → Bool
is_called system scope e = is_function e.row.means && same_scope scope e.within && is_none (print_of system e)

abbrev pub many_called : (system scope : Option ℕ) → List Entry → ℕ
many_called system scope es = count_by (is_called system scope) es

-- A function has its place among the functions of its module, in the order of declaration; the prints stand behind them.
abbrev pub number_by : (print : Option ℕ) → (all before : ℕ) → ℕ
number_by None all before = before
number_by (Some p) all before = all + p

abbrev pub function_number : List Entry → (system : Option ℕ) → (k : ℕ) → Entry → ℕ
function_number es system k e =
    number_by (print_of system e) (many_called system e.within es) (many_called system e.within (take k es))

-- A function means its place, a variable nothing, anything else what it means everywhere.
abbrev pub export_in : (function : ℕ) → Option Meaning → Declared → Option Meaning
export_in n x (rows.Function f) = Some (meaning.Function n)
export_in n x (rows.Variable t value) = None
export_in n x (rows.Inferred value) = None
export_in n x _ = x

-- What the declaration of number k means to others, if it means this where it is declared.
abbrev pub export_by : List Entry → (system : Option ℕ) → (k : ℕ) → Entry → Option Meaning → Option Meaning
export_by es system k e x = export_in (function_number es system k e) x e.row.means

abbrev pub export_of : List Entry → (m : ℕ) → (system : Option ℕ) → (k : ℕ) → Entry → Option Meaning
export_of es m system k e = export_by es system k e (meaning_of es m k e)

-- This is what all declarations mean to others.
abbrev pub AreExports : List Entry → (m : ℕ) → (system : Option ℕ) → List (Option Meaning) → Type 0
AreExports es m system all = (k : ℕ) (e : Entry) → IsEntry es k e → slice_get all k ≡ Some (export_of es m system k e)
