-- What declarations are for the bodies of the implemented module (Limbo Language Reference, scope, modules and adts).
use Rattle.std.specs.Prelude.{◌≡◌, ℕ, ◌==◌, Bool, true, false, ◌||◌, if◌then◌else◌, List, Option, None, Some, slice_get}
use Rattle.limbo_declarations.specs.Rows as rows
use Rattle.limbo_declarations.specs.Rows.{Declared}
use Rattle.limbo_entries.specs.Entries.{Entry}
use Rattle.limbo_meanings.specs.declared.kind.Kind.{Kind}
use Rattle.limbo_meanings.specs.declared.kind.Kind.TheVariants as kind

-- The kinds in their order.
abbrev pub place : Kind → ℕ
place kind.Global = 0
place kind.Constant = 1
place kind.Type = 2
place kind.Adt = 3
place kind.Module = 4
place kind.Function = 5
place kind.Import = 6
place kind.Exception = 7

-- The scope is the top level, or that of the implemented module, which has the number m.
abbrev pub is_outermost : (m : ℕ) → Option ℕ → Bool
is_outermost m None = true
is_outermost m (Some a) = a == m

-- An adt that stands in the outermost scopes is the module's own.
abbrev pub adt_stands : (m : ℕ) → Option ℕ → Declared → Bool
adt_stands m scope (rows.Adt ms pick) = is_outermost m scope
adt_stands m scope _ = false

abbrev pub is_own_adt : (m : ℕ) → Entry → Bool
is_own_adt m e = adt_stands m e.within e.row.means

abbrev pub owns : (m : ℕ) → Option Entry → Bool
owns m None = false
owns m (Some e) = is_own_adt m e

-- What stands in the scope is the module's own: in an outermost scope, or in an adt of the module.
abbrev pub is_own : List Entry → (m : ℕ) → Option ℕ → Bool
is_own es m None = true
is_own es m (Some a) = (a == m) || owns m (slice_get es a)

-- The kind of what is declared so. A variable of the outermost scopes is one of the module; others are fields, or variables of other
-- modules. A function of another module, or of an adt of another one, is none of the module's. A variant has no kind: it is named
-- through its adt.
abbrev pub kind_in : (own outermost : Bool) → Declared → Option Kind
kind_in own outermost (rows.Constant e i) = Some kind.Constant
kind_in own outermost (rows.Alias t) = Some kind.Type
kind_in own outermost (rows.Variable t e) = if outermost then Some kind.Global else None
kind_in own outermost (rows.Inferred e) = if outermost then Some kind.Global else None
kind_in own outermost (rows.Imported source) = Some kind.Import
kind_in own outermost (rows.Exception ts) = Some kind.Exception
kind_in own outermost (rows.Module ms) = Some kind.Module
kind_in own outermost (rows.Adt ms pick) = Some kind.Adt
kind_in own outermost (rows.Function f) = if own then Some kind.Function else None
kind_in own outermost (rows.Case fs) = None

abbrev pub kind_of : List Entry → (m : ℕ) → Entry → Option Kind
kind_of es m e = kind_in (is_own es m e.within) (is_outermost m e.within) e.row.means

-- The declaration has the kind at this place.
abbrev pub is_at : ℕ → Option Kind → Bool
is_at p None = false
is_at p (Some k) = place k == p

abbrev pub has_kind : List Entry → (m : ℕ) → (p : ℕ) → Entry → Bool
has_kind es m p e = is_at p (kind_of es m e)
