use Rattle.std.proofs.Common.{◌≡◌, ◌≤◌, ◌+◌, ◌*◌, ℕ, [], ◌∷◌, map, take, drop, length, get_or}
use Rattle.limbo_types.specs.View.{view_ty}
use Rattle.limbo_typed.specs.declared.expr.TExpr as code_expr
use Rattle.limbo_typed.specs.declared.expr.Item as code_item
use Rattle.limbo_typed.specs.View.{view_expr, view_exprs, view_item, items_of}
use Rattle.limbo_standing.specs.Settling.{settled_each, settled_all, settled_items}
use Rattle.limbo_standing.proofs.Runs.{with_front, items_front, pair_rest, pair_at}
use Rattle.limbo_standing.proofs.standing.+settling.Given as goal

abbrev pub invariant-settle_all-loop-value : goal.invariant-settle_all-loop-value
invariant-settle_all-loop-value l = record {
  told : settled_all (view_ty l.asked) (view_exprs l.fn.values)
      ≡ with_front (map view_expr (take l.value-index l.values)) (settled_all (view_ty l.asked) (view_exprs (drop l.value-index l.values)));
  unvisited : (k : ℕ) (d : code_expr.TExpr) → l.value-index ≤ k → get_or l.values k d ≡ get_or l.fn.values k d;
}

abbrev pub invariant-settle_each-loop-value : goal.invariant-settle_each-loop-value
invariant-settle_each-loop-value l = record {
  told : settled_each (map view_ty l.asked) (view_exprs l.fn.values)
      ≡ with_front (map view_expr (take l.value-index l.values)) (settled_each (map view_ty l.rest) (view_exprs (drop l.value-index l.values)));
  unvisited : (k : ℕ) (d : code_expr.TExpr) → l.value-index ≤ k → get_or l.values k d ≡ get_or l.fn.values k d;
}

abbrev pub invariant-settle_pair-loop-value : goal.invariant-settle_pair-loop-value
invariant-settle_pair-loop-value l = record {
  told : settled_each (view_ty l.item ∷ view_ty l.list ∷ []) (view_exprs l.fn.values)
      ≡ with_front (map view_expr (take l.value-index l.values))
      (settled_each (pair_rest (view_ty l.item) (view_ty l.list) l.value-index) (view_exprs (drop l.value-index l.values)));
  asked : view_ty l.asked ≡ pair_at (view_ty l.item) (view_ty l.list) l.value-index;
  two : length l.fn.values ≡ 2;
  unvisited : (k : ℕ) (d : code_expr.TExpr) → l.value-index ≤ k → get_or l.values k d ≡ get_or l.fn.values k d;
}

abbrev pub invariant-settle_items-loop-item : goal.invariant-settle_items-loop-item
invariant-settle_items-loop-item l = record {
  told : settled_items (view_ty l.asked) (items_of (map view_item l.fn.items))
      ≡ items_front (map view_item (take l.item-index l.items)) (settled_items (view_ty l.asked) (items_of (map view_item (drop l.item-index l.items))));
  unvisited : (k : ℕ) (d : code_item.Item) → l.item-index ≤ k → get_or l.items k d ≡ get_or l.fn.items k d;
}

-- how deep a value is, and then which of the functions that are given the same one is further out
abbrev pub decreases-settle_value : goal.decreases-settle_value
decreases-settle_value l = 4 * goal.size-settle_value l

abbrev pub decreases-settle_node : goal.decreases-settle_node
decreases-settle_node l = 4 * goal.size-settle_node l + 1

abbrev pub decreases-settle_filled : goal.decreases-settle_filled
decreases-settle_filled l = 4 * goal.size-settle_filled l

abbrev pub decreases-settle_args : goal.decreases-settle_args
decreases-settle_args l = 4 * goal.size-settle_args l + 2

abbrev pub decreases-settle_each : goal.decreases-settle_each
decreases-settle_each l = 4 * goal.size-settle_each l + 1

abbrev pub decreases-settle_all : goal.decreases-settle_all
decreases-settle_all l = 4 * goal.size-settle_all l + 1

abbrev pub decreases-settle_pair : goal.decreases-settle_pair
decreases-settle_pair l = 4 * goal.size-settle_pair l + 1

abbrev pub decreases-settle_items : goal.decreases-settle_items
decreases-settle_items l = 4 * goal.size-settle_items l + 1

abbrev pub decreases-settle_rest : goal.decreases-settle_rest
decreases-settle_rest l = 4 * goal.size-settle_rest l + 1
