use Rattle.std.proofs.Common.{length}
use Rattle.limbo_lexer.specs.declared.token.Key.TheVariants as key
use Rattle.limbo_tree.specs.View.{view_pattern}
use Rattle.limbo_reading.specs.Reading.{kinds, after_key}
use Rattle.limbo_reading.specs.Lists.{items}
use Rattle.limbo_reading.proofs.Loops.{Reading}
use Rattle.limbo_stmt_parts.specs.Heads.{case_pattern_at}
use Rattle.limbo_stmt_parts.proofs.heads.case_patterns_at.Given as goal

-- the patterns so far, and what is left
abbrev pub invariant-patterns : goal.invariant-patterns
invariant-patterns l = Reading view_pattern (case_pattern_at l.fn.budget) (after_key key.Or) (items (case_pattern_at l.fn.budget) (after_key key.Or) (kinds l.fn.tokens)) l.patterns.items (kinds l.rest)

abbrev pub decreases-patterns : goal.decreases-patterns
decreases-patterns l = length (kinds l.rest)
