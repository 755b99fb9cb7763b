use Rattle.std.proofs.Common.{length}
use Rattle.limbo_lexer.specs.declared.token.Mark.TheVariants as mark
use Rattle.limbo_tree.specs.View.{view_param}
use Rattle.limbo_reading.specs.Reading.{kinds, after_mark}
use Rattle.limbo_reading.specs.Lists.{items}
use Rattle.limbo_reading.proofs.Loops.{Reading}
use Rattle.limbo_decl_parser.specs.Decls.{param_at}
use Rattle.limbo_decl_parser.proofs.params.several_params.Given as goal

-- the list so far, and what is left
abbrev pub invariant-params : goal.invariant-params
invariant-params l = Reading view_param (param_at l.fn.budget) (after_mark mark.Comma) (items (param_at l.fn.budget) (after_mark mark.Comma) (kinds l.fn.tokens)) l.params.items (kinds l.rest)

abbrev pub decreases-params : goal.decreases-params
decreases-params l = length (kinds l.rest)
