use Rattle.std.proofs.Common.{length}
use Rattle.limbo_lexer.specs.declared.token.Mark.TheVariants as mark
use Rattle.limbo_lexer.specs.declared.token.Key.TheVariants as key
use Rattle.limbo_tree.specs.View.{view_name}
use Rattle.limbo_reading.specs.Reading.{kinds, after_mark, after_key, expect_name}
use Rattle.limbo_reading.specs.Lists.{names_at, choices_at}
use Rattle.limbo_reading.proofs.Loops.{Reading}
use Rattle.limbo_reading.proofs.names.expect_choices.Given as goal

-- the names so far, and what is left
abbrev pub invariant-names : goal.invariant-names
invariant-names l = Reading view_name expect_name (after_key key.Or) (choices_at (kinds l.fn.tokens)) l.names.items (kinds l.rest)

abbrev pub decreases-names : goal.decreases-names
decreases-names l = length (kinds l.rest)
