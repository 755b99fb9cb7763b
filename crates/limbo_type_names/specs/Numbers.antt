-- The numbers of adts, of modules and of the variants of an adt.
use Rattle.std.specs.Prelude.{◌≡◌, ◌==◌, ℕ, Bool, false, ◌&&◌, ◌||◌, List, Option, None, Some, count_by, take, slice_get}
use Rattle.limbo_entries.specs.Entries.{Entry, IsEntry}
use Rattle.limbo_naming.specs.Naming.{is_adt, is_module, is_variant}

abbrev pub are_adts : Entry → Entry → Bool
are_adts e f = is_adt e.row.means && is_adt f.row.means

abbrev pub are_modules : Entry → Entry → Bool
are_modules e f = is_module e.row.means && is_module f.row.means

abbrev pub is_inside : Option ℕ → Option ℕ → Bool
is_inside None scope = false
is_inside (Some a) None = false
is_inside (Some a) (Some b) = a == b

-- variants that stand in one adt
abbrev pub are_variants : Entry → Entry → Bool
are_variants e f = is_variant e.row.means && is_variant f.row.means && is_inside e.within f.within

abbrev pub are_alike : Entry → Entry → Bool
are_alike e f = are_adts e f || are_modules e f || are_variants e f

-- The number of the declaration that stands at a place: how many of its kind stand before it. Adts are counted, modules, and the variants
-- of each adt. So an adt's number is its place among the adts of the source, in the order of the table of declarations.
abbrev pub number_of : List Entry → ℕ → Entry → ℕ
number_of es k e = count_by (are_alike e) (take k es)

-- Each declaration has its number.
abbrev pub AreNumbers : List Entry → List ℕ → Type 0
AreNumbers es numbers = (k : ℕ) (e : Entry) → IsEntry es k e → slice_get numbers k ≡ Some (number_of es k e)
