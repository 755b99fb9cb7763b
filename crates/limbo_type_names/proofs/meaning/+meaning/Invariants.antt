use Rattle.limbo_tree.specs.Types.{ty_nesting, tys_nesting}
use Rattle.std.proofs.Common.{◌≡◌, ◌+◌, ◌*◌, ◌≤◌, map, take}
use Rattle.limbo_tree.specs.View.{view_type, tys_of}
use Rattle.limbo_types.specs.View.{view_tys}
use Rattle.limbo_type_names.specs.Sizes.{sizes}
use Rattle.limbo_type_names.specs.Means.{AllMean}
use Rattle.limbo_type_names.specs.Working.{entries_in}
use Rattle.limbo_type_names.proofs.meaning.+meaning.Given as goal

abbrev pub invariant-tuple_in-loop-part : goal.invariant-tuple_in-loop-part
invariant-tuple_in-loop-part l = record {
  means : AllMean (entries_in l.known.naming.now) l.known.naming.now.implemented l.scope (tys_of (map view_type (take l.part-index l.parts))) (view_tys l.types.items);
  nodes : l.nodes ≡ 1 + sizes (view_tys l.types.items);
  small : l.nodes ≤ 4096;
}

abbrev pub decreases-type_in : goal.decreases-type_in
decreases-type_in l = 2 * ty_nesting (view_type l.of.now)

abbrev pub decreases-tuple_in : goal.decreases-tuple_in
decreases-tuple_in l = 2 * tys_nesting (tys_of (map view_type l.parts.now)) + 1
