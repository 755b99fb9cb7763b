use Rattle.std.proofs.Common.{length}
use Rattle.limbo_lexer.specs.declared.token.Mark.TheVariants as mark
use Rattle.limbo_tree.specs.View.{view_type}
use Rattle.limbo_reading.specs.Reading.{kinds, after_mark}
use Rattle.limbo_reading.specs.Lists.{items}
use Rattle.limbo_reading.proofs.Loops.{Reading}
use Rattle.limbo_expr_parts.specs.Types.{ty_at}
use Rattle.limbo_decl_parser.proofs.decl.several_types.Given as goal

-- the list so far, and what is left
abbrev pub invariant-types : goal.invariant-types
invariant-types l = Reading view_type (ty_at l.fn.budget) (after_mark mark.Comma) (items (ty_at l.fn.budget) (after_mark mark.Comma) (kinds l.fn.tokens)) l.types.items (kinds l.rest)

abbrev pub decreases-types : goal.decreases-types
decreases-types l = length (kinds l.rest)
