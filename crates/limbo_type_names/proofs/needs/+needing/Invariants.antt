use Rattle.std.proofs.Common.{◌++◌, List, map, take}
use Rattle.limbo_tree.specs.View.{view_type, tys_of}
use Rattle.limbo_naming.specs.Qualified.{Qualified}
use Rattle.limbo_unknown.specs.Written.{in_types}
use Rattle.limbo_type_names.specs.Working.{AreNeeds}
use Rattle.limbo_type_names.proofs.needs.+needing.Given as goal

abbrev pub invariant-push_all_needs-loop-of : goal.invariant-push_all_needs-loop-of
invariant-push_all_needs-loop-of l =
    (names : List Qualified) → AreNeeds l.naming l.scope names l.initial.row.items
    → AreNeeds l.naming l.scope (names ++ in_types (tys_of (map view_type (take l.of-index l.types)))) l.row.items
