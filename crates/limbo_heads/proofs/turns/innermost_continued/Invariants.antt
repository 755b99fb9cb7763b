use Rattle.limbo_tree.specs.View.{name_of}
use Rattle.limbo_stmt_values.specs.limbo_stating.Around.{IsContinued}
use Rattle.limbo_heads.proofs.Places.{NoneBefore}
use Rattle.limbo_heads.proofs.turns.innermost_continued.Given as goal

abbrev pub invariant-loop-place : goal.invariant-loop-place
invariant-loop-place l = NoneBefore l.turns (IsContinued (name_of l.label)) l.place
