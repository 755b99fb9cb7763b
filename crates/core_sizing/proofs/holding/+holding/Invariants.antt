use Rattle.std.proofs.Common.{◌≡◌, ◌+◌, ◌*◌, max, drop, map}
use Rattle.limbo_layout.specs.View.{view_defs}
use Rattle.limbo_typed.specs.View.{view_exprs, view_pattern, patterns_of}
use Rattle.limbo_typed.proofs.expr.TExpr.TheLaws.{the_size}
use Rattle.limbo_typed.proofs.expr.TNode.TheLaws.{the_size as node_size}
use Rattle.limbo_typed.proofs.expr.Place.TheLaws.{the_size as place_size}
use Rattle.limbo_typed.proofs.expr.PlaceNode.TheLaws.{the_size as way_size}
use Rattle.limbo_typed.proofs.expr.Pattern.TheLaws.{the_size as pattern_size}
use Rattle.core_sizing.specs.Holding.{exprs_hold, patterns_hold}
use Rattle.core_sizing.proofs.holding.+holding.Given as goal
use denote.Param.Weighed.{most}

abbrev pub decreases-expr_holds : goal.decreases-expr_holds
decreases-expr_holds l = the_size l.e.now * 8

abbrev pub decreases-node_holds : goal.decreases-node_holds
decreases-node_holds l = node_size l.node.now * 8 + 1

abbrev pub decreases-one_holds : goal.decreases-one_holds
decreases-one_holds l = max (the_size l.first.now) (the_size l.second.now) * 8 + 1

abbrev pub decreases-exprs_hold : goal.decreases-exprs_hold
decreases-exprs_hold l = most the_size l.es.now * 8 + 1

abbrev pub decreases-place_holds : goal.decreases-place_holds
decreases-place_holds l = place_size l.place.now * 8

abbrev pub decreases-way_holds : goal.decreases-way_holds
decreases-way_holds l = way_size l.place.now * 8 + 1

abbrev pub decreases-pattern_holds : goal.decreases-pattern_holds
decreases-pattern_holds l = pattern_size l.pattern.now * 8

abbrev pub decreases-patterns_hold : goal.decreases-patterns_hold
decreases-patterns_hold l = most pattern_size l.parts.now * 8 + 1

abbrev pub invariant-exprs_hold-loop-e : goal.invariant-exprs_hold-loop-e
invariant-exprs_hold-loop-e l =
    exprs_hold (view_defs l.extents) (view_exprs l.es) ≡ exprs_hold (view_defs l.extents) (view_exprs (drop l.e-index l.es))

abbrev pub invariant-patterns_hold-loop-part : goal.invariant-patterns_hold-loop-part
invariant-patterns_hold-loop-part l =
    patterns_hold (view_defs l.extents) (patterns_of (map view_pattern l.parts))
    ≡ patterns_hold (view_defs l.extents) (patterns_of (map view_pattern (drop l.part-index l.parts)))
