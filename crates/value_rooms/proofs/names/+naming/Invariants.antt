use Rattle.std.proofs.Common.{◌≡◌, ◌++◌, drop}
use Rattle.limbo_types.specs.View.{view_tys}
use Rattle.limbo_layout.specs.Layout.{nothing}
use Rattle.value_rooms.specs.Names.{all_named, view_names}
use Rattle.value_rooms.proofs.names.+naming.Given as goal

abbrev pub invariant-put_row_names-loop-t : goal.invariant-put_row_names-loop-t
invariant-put_row_names-loop-t l =
    l.names.items ++ all_named l.table (view_names l.adts) l.at l.whole (view_tys (drop l.t-index l.types))
    ≡ l.fn.names.items ++ all_named l.table (view_names l.adts) l.at nothing (view_tys l.types)
