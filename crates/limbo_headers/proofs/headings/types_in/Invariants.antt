use Rattle.std.proofs.Common.{map, take}
use Rattle.limbo_tree.specs.View.{view_type, tys_of}
use Rattle.limbo_types.specs.View.{view_tys}
use Rattle.limbo_type_names.specs.Means.{AllMean}
use Rattle.limbo_type_names.specs.Working.{entries_in}
use Rattle.limbo_headers.proofs.headings.types_in.Given as goal

abbrev pub invariant-loop-of : goal.invariant-loop-of
invariant-loop-of l =
    AllMean (entries_in l.names.naming.now) l.names.naming.now.implemented l.scope (tys_of (map view_type (take l.of-index l.written))) (view_tys l.types.items)
