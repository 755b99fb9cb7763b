-- What holds of functions that are members of modules.
use Rattle.std.specs.Prelude.{◌≡◌, ◌≤◌, ◌-◌, ℕ, List, Option, None, Some, true, count_by, take}
use Rattle.limbo_declarations.specs.Rows as rows
use Rattle.limbo_entries.specs.Entries.{Entry, IsEntry}
use Rattle.limbo_tree.specs.Decls.{FnType}
use Rattle.limbo_scope.specs.declared.meaning.Meaning.{Meaning}
use Rattle.limbo_scope.specs.declared.meaning.Meaning.TheVariants as meaning
use Rattle.limbo_meanings.specs.declared.kind.Kind.TheVariants as kind
use Rattle.limbo_meanings.specs.Meanings.{many_of, AreMeanings}
use Rattle.limbo_exports.specs.System.{print_of, IsFirst, is_system, is_fd, module_number, adt_number}
use Rattle.limbo_exports.specs.Exports.{export_of, is_called, many_called}

-- A function of a module that is no print means how many of them stand before it.
abbrev pub FunctionExported : Type 0
FunctionExported =
    (es : List Entry) (m k n : ℕ) (system : Option ℕ) (e : Entry) (f : FnType)
    → e.row.means ≡ rows.Function f → print_of system e ≡ None → export_of es m system k e ≡ Some (meaning.Function n)
    → (is_called system e.within e ≡ true) × (count_by (is_called system e.within) (take k es) ≡ n)

-- A print stands behind the functions of its module, by its place among the prints.
abbrev pub PrintExported : Type 0
PrintExported =
    (es : List Entry) (m k n p : ℕ) (system : Option ℕ) (e : Entry) (f : FnType)
    → e.row.means ≡ rows.Function f → print_of system e ≡ Some p → export_of es m system k e ≡ Some (meaning.Function n)
    → (many_called system e.within es ≤ n) × (n - many_called system e.within es ≡ p)

-- The built-in module has its place among the module types, and its file descriptors' adt among the adts.
abbrev pub SystemHasNumber : Type 0
SystemHasNumber =
    (es : List Entry) (m k : ℕ) (means : List (Option Meaning)) → AreMeanings es m means → IsFirst is_system es k
    → module_number means (Some k) ≡ Some (many_of es m kind.Module (take k es))

abbrev pub FdHasNumber : Type 0
FdHasNumber =
    (es : List Entry) (m k : ℕ) (system : Option ℕ) (means : List (Option Meaning)) → AreMeanings es m means → IsFirst (is_fd system) es k
    → adt_number means (Some k) ≡ Some (many_of es m kind.Adt (take k es))
