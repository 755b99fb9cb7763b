use Rattle.std.proofs.Common.{◌≡◌, ℕ, ◌+◌, ◌*◌, ◌≤◌, drop, map, max, Option, Some, None, Box, Global}
use Rattle.limbo_layout.specs.View.{view_defs}
use Rattle.limbo_typed.specs.View.{view_exprs, view_item, items_of, view_pattern, patterns_of}
use Rattle.limbo_typed.specs.declared.expr.TExpr as code_expr
use Rattle.limbo_typed.proofs.expr.TExpr.TheLaws.{the_size}
use Rattle.limbo_typed.proofs.expr.TNode.TheLaws.{the_size as node_size}
use Rattle.limbo_typed.proofs.expr.Item.TheLaws.{the_size as item_size}
use Rattle.limbo_typed.proofs.expr.Place.TheLaws.{the_size as place_size}
use Rattle.limbo_typed.proofs.expr.PlaceNode.TheLaws.{the_size as way_size}
use Rattle.limbo_typed.proofs.expr.Pattern.TheLaws.{the_size as pattern_size}
use Rattle.core_frames.specs.Sizes.{exprs_size, greatest, held_size, patterns_size}
use Rattle.core_sizing.proofs.sizes.+sizes.Given as goal
use denote.Param.Weighed.{most}

abbrev boxed_size : Option (Box code_expr.TExpr Global) → ℕ
boxed_size None = 0
boxed_size (Some e) = the_size e.value

abbrev pub decreases-expr_leaves : goal.decreases-expr_leaves
decreases-expr_leaves l = the_size l.e.now * 8

abbrev pub decreases-inner_leaves : goal.decreases-inner_leaves
decreases-inner_leaves l = node_size l.node.now * 8 + 1

abbrev pub decreases-parts_leave : goal.decreases-parts_leave
decreases-parts_leave l = node_size l.node.now * 8

abbrev pub decreases-two_leave : goal.decreases-two_leave
decreases-two_leave l = max (the_size l.first.now) (the_size l.second.now) * 8 + 1

abbrev pub decreases-exprs_leave : goal.decreases-exprs_leave
decreases-exprs_leave l = most the_size l.es.now * 8 + 1

abbrev pub decreases-optional_leaves : goal.decreases-optional_leaves
decreases-optional_leaves l = boxed_size l.e.now * 8 + 2

abbrev pub decreases-element_leaves : goal.decreases-element_leaves
decreases-element_leaves l = the_size l.e.now * 8 + 1

abbrev pub decreases-items_leave : goal.decreases-items_leave
decreases-items_leave l = most item_size l.items.now * 8 + 1

abbrev pub decreases-other_leaves : goal.decreases-other_leaves
decreases-other_leaves l = boxed_size l.e.now * 8 + 2

abbrev pub decreases-place_leaves : goal.decreases-place_leaves
decreases-place_leaves l = place_size l.place.now * 8

abbrev pub decreases-way_leaves : goal.decreases-way_leaves
decreases-way_leaves l = way_size l.place.now * 8 + 1

abbrev pub decreases-pattern_leaves : goal.decreases-pattern_leaves
decreases-pattern_leaves l = pattern_size l.pattern.now * 8

abbrev pub decreases-patterns_leave : goal.decreases-patterns_leave
decreases-patterns_leave l = most pattern_size l.parts.now * 8 + 1

abbrev pub invariant-exprs_leave-loop-e : goal.invariant-exprs_leave-loop-e
invariant-exprs_leave-loop-e l = record {
  fits : l.rest ≤ l.budget;
  left : l.rest + exprs_size (view_defs l.extents) (view_exprs l.es)
      ≡ l.budget + exprs_size (view_defs l.extents) (view_exprs (drop l.e-index l.es));
}

abbrev pub invariant-patterns_leave-loop-part : goal.invariant-patterns_leave-loop-part
invariant-patterns_leave-loop-part l = record {
  fits : l.rest ≤ l.budget;
  left : l.rest + patterns_size (view_defs l.extents) (patterns_of (map view_pattern l.parts))
      ≡ l.budget + patterns_size (view_defs l.extents) (patterns_of (map view_pattern (drop l.part-index l.parts)));
}

abbrev pub invariant-items_leave-loop-item : goal.invariant-items_leave-loop-item
invariant-items_leave-loop-item l = record {
  fits : l.elements.rest ≤ l.budget;
  held : l.elements.rest + held_size (view_defs l.extents) (items_of (map view_item l.items))
      ≡ l.budget + held_size (view_defs l.extents) (items_of (map view_item (drop l.item-index l.items)));
  greatest : max l.elements.greatest (greatest (view_defs l.extents) (items_of (map view_item (drop l.item-index l.items))))
      ≡ greatest (view_defs l.extents) (items_of (map view_item l.items));
}
