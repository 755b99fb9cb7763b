-- The elements of an initialiser, behind those that are stored.
use Rattle.std.specs.Prelude.{ℕ, ◌+◌, max, List, [], ◌++◌, map, if◌then◌else◌}
use Rattle.limbo_types.specs.Types.{Ty}
use Rattle.limbo_layout.specs.Adts.{Def}
use Rattle.limbo_meaning.specs.Trees.{Items}
use Rattle.limbo_meaning.specs.Evaluation.{may_hold}
use Rattle.limbo_meaning.specs.Program.{term_of}
use Rattle.limbo_typed.specs.Typed as typed
use Rattle.limbo_typed.specs.declared.expr.Item as code_item
use Rattle.limbo_typed.specs.View.{view_item, items_of}
use Rattle.core_code.specs.Terms.{Lowered, lower_items}
use Rattle.core_frames.specs.Sizes.{expr_size, optional_size, held_size, greatest, rest_held, rest_alone}

abbrev pub none_stored : (array lo : ℕ) → Lowered
none_stored a lo = record { code = []; drops = []; value = a; free = lo }

abbrev pub all_stored : List Def → Ty → (shared : ℕ) → Lowered → Items → Lowered
all_stored defs t shared l is =
    let m = lower_items defs t l.value shared l.free is in
    record { code = l.code ++ m.code; drops = l.drops ++ m.drops; value = l.value; free = m.free }

-- the elements of the code
abbrev pub view_items : List code_item.Item → typed.Items
view_items is = items_of (map view_item is)

-- what the parts of an initialiser count
abbrev pub filled_size : List Def → (length : typed.Optional) → typed.Items → (rest : typed.Optional) → ℕ
filled_size defs l is rest =
    optional_size defs l + (held_size defs is + (rest_held defs rest + max (greatest defs is) (rest_alone defs rest)))

-- what an element counts, where it may hold references, and where it holds none
abbrev pub held : List Def → typed.Expr → ℕ
held defs e = if may_hold defs (term_of e) then expr_size defs e else 0

abbrev pub alone : List Def → typed.Expr → ℕ
alone defs e = if may_hold defs (term_of e) then 0 else expr_size defs e
