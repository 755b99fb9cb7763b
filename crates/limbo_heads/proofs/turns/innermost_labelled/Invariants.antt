use Rattle.limbo_tree.specs.View.{name_of}
use Rattle.limbo_stmt_values.specs.limbo_stating.Around.{IsLabelled}
use Rattle.limbo_heads.proofs.Places.{NoneBefore}
use Rattle.limbo_heads.proofs.turns.innermost_labelled.Given as goal

abbrev pub invariant-loop-place : goal.invariant-loop-place
invariant-loop-place l = NoneBefore l.turns (IsLabelled (name_of l.label)) l.place
