use Rattle.std.proofs.Common.{◌≡◌, ◌+◌, ◌*◌, ◌≤◌, length}
use Rattle.limbo_lexer.specs.declared.token.Mark.TheVariants as mark
use Rattle.limbo_tree.specs.View.{view_type}
use Rattle.limbo_reading.specs.Reading.{kinds, after_mark}
use Rattle.limbo_reading.proofs.Loops.{Reading}
use Rattle.limbo_expr_parts.specs.Types.{ty_at, types_at}
use Rattle.limbo_expr_parts.proofs.TypeSteps.{types_size}
use Rattle.limbo_expr_parts.proofs.types.+types.Given as goal

abbrev pub decreases-type_in : goal.decreases-type_in
decreases-type_in l = l.budget * 8

abbrev pub decreases-type_above : goal.decreases-type_above
decreases-type_above l = l.inner * 8 + 4

abbrev pub decreases-element_at : goal.decreases-element_at
decreases-element_at l = l.budget * 8 + 1

abbrev pub decreases-tuple_at : goal.decreases-tuple_at
decreases-tuple_at l = l.inner * 8 + 2

abbrev pub decreases-types_at : goal.decreases-types_at
decreases-types_at l = l.budget * 8 + 1

abbrev pub invariant-types_at-all : goal.invariant-types_at-all
invariant-types_at-all l =
    Reading view_type (ty_at l.budget) (after_mark mark.Comma) (types_at (ty_at l.budget) (kinds l.tokens)) l.parts.items (kinds l.rest)
    × (l.size ≡ types_size l.parts.items)
    × (l.size ≤ l.budget)

abbrev pub decreases-types_at-all : goal.decreases-types_at-all
decreases-types_at-all l = length (kinds l.rest)
