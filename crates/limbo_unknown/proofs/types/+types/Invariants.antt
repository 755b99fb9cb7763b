use Rattle.std.proofs.Common.{map, drop}
use Rattle.limbo_tree.specs.View.{view_type, tys_of}
use Rattle.limbo_unknown.specs.Written.{in_types}
use Rattle.limbo_unknown.proofs.Gaps.{Alike}
use Rattle.limbo_unknown.proofs.types.+types.Given as goal

abbrev pub invariant-missing_in_types-loop-of : goal.invariant-missing_in_types-loop-of
invariant-missing_in_types-loop-of l =
    Alike l.naming l.scope (in_types (tys_of (map view_type (drop l.of-index l.types)))) (in_types (tys_of (map view_type l.types)))
