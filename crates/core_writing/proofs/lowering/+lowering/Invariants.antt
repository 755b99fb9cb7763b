use Rattle.std.proofs.Common.{◌≡◌, ◌≤◌, ◌*◌, ◌+◌, drop, length}
use Rattle.limbo_layout.specs.View.{view_defs}
use Rattle.limbo_typed.specs.View.{view_expr, view_place, view_optional}
use Rattle.limbo_types.specs.View.{view_ty}
use Rattle.std.specs.Prelude.{max}
use Rattle.limbo_meaning.specs.Program.{items_of}
use Rattle.core_writing.specs.Initialisers.{view_items, filled_size, all_stored, alone}
use Rattle.core_code.specs.Terms.{lower_all, lower_items, items_end}
use Rattle.core_frames.specs.Sizes.{expr_size, place_size, optional_size, greatest, held_size, rest_alone, rest_held}
use Rattle.core_parts.specs.Lowered.{view_lowered, view_lowered_all}
use Rattle.core_writing.specs.Completed.{continued}
use Rattle.core_writing.specs.Operands.{operands_size, terms_in}
use Rattle.core_writing.proofs.lowering.+lowering.Given as goal

abbrev pub decreases-lower_expr : goal.decreases-lower_expr
decreases-lower_expr l = expr_size (view_defs l.extents.now) (view_expr l.e.now) * 8 + 3

abbrev pub decreases-lower_node : goal.decreases-lower_node
decreases-lower_node l = expr_size (view_defs l.extents.now) (view_expr l.e.now) * 8 + 2

abbrev pub decreases-lower_operand : goal.decreases-lower_operand
decreases-lower_operand l = expr_size (view_defs l.extents.now) (view_expr l.operand.expr.now) * 8 + 4

abbrev pub decreases-lower_operands : goal.decreases-lower_operands
decreases-lower_operands l = operands_size (view_defs l.extents.now) l.operands.now * 8 + 5

abbrev pub decreases-lower_lazy : goal.decreases-lower_lazy
decreases-lower_lazy l =
    let defs = view_defs l.extents.now in
    (16 + (expr_size defs (view_expr l.left.now) + expr_size defs (view_expr l.right.now))) * 8 + 2

abbrev pub decreases-lower_update : goal.decreases-lower_update
decreases-lower_update l =
    let defs = view_defs l.extents.now in
    (16 + (place_size defs (view_place l.place.now) + operands_size defs l.others.now)) * 8 + 2

-- What is lowered, and what is left.
abbrev pub invariant-lower_operands-loop-operand : goal.invariant-lower_operands-loop-operand
invariant-lower_operands-loop-operand l =
    let defs = view_defs l.extents in
    record {
      told : continued defs (view_lowered_all l.all) (terms_in (drop l.operand-index l.operands))
          ≡ lower_all defs l.lo (terms_in l.operands);
      room : l.all.free + operands_size defs (drop l.operand-index l.operands) ≤ l.lo + operands_size defs l.operands;
      count : length l.all.values.items ≡ l.operand-index;
    }

-- ---- initialisers

abbrev pub decreases-lower_filled : goal.decreases-lower_filled
decreases-lower_filled l =
    (16 + filled_size (view_defs l.extents.now) (view_optional l.length.now) (view_items l.items.now) (view_optional l.rest.now)) * 8 + 2

abbrev pub decreases-lower_length : goal.decreases-lower_length
decreases-lower_length l = optional_size (view_defs l.extents.now) (view_optional l.length.now) * 8 + 4

abbrev pub decreases-element_end : goal.decreases-element_end
decreases-element_end l = alone (view_defs l.extents.now) (view_expr l.e.now) * 8 + 4

abbrev pub decreases-shared_end : goal.decreases-shared_end
decreases-shared_end l =
    let defs = view_defs l.extents.now in
    max (greatest defs (view_items l.items.now)) (rest_alone defs (view_optional l.rest.now)) * 8 + 5

abbrev pub decreases-lower_items : goal.decreases-lower_items
decreases-lower_items l =
    let defs = view_defs l.extents.now in
    (held_size defs (view_items l.items.now) + greatest defs (view_items l.items.now)) * 8 + 5

abbrev pub decreases-lower_others : goal.decreases-lower_others
decreases-lower_others l =
    let defs = view_defs l.extents.now in
    (rest_held defs (view_optional l.rest.now) + rest_alone defs (view_optional l.rest.now)) * 8 + 5

abbrev pub invariant-shared_end-loop-item : goal.invariant-shared_end-loop-item
invariant-shared_end-loop-item l =
    let defs = view_defs l.extents in
    record {
      told : max l.end (items_end defs l.shared (items_of (view_items (drop l.item-index l.items))))
          ≡ items_end defs l.shared (items_of (view_items l.items));
      least : l.shared ≤ l.end;
    }

-- What is stored, and what is left.
abbrev pub invariant-lower_items-loop-item : goal.invariant-lower_items-loop-item
invariant-lower_items-loop-item l =
    let defs = view_defs l.extents in
    record {
      told : all_stored defs (view_ty l.ty) l.shared (view_lowered l.sum) (items_of (view_items (drop l.item-index l.items)))
          ≡ lower_items defs (view_ty l.ty) l.array l.shared l.lo (items_of (view_items l.items));
      room : l.sum.free + held_size defs (view_items (drop l.item-index l.items)) ≤ l.lo + held_size defs (view_items l.items);
    }
