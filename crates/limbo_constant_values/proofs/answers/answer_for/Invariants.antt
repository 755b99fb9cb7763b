use Rattle.std.proofs.Common.{◌≡◌, drop}
use Rattle.limbo_tree.specs.View.{view_expr}
use Rattle.limbo_constant_values.specs.Answers.{answer_in, answers_of}
use Rattle.limbo_constant_values.proofs.answers.answer_for.Given as goal

-- what is found is found among those that are left
abbrev pub invariant-loop-answer : goal.invariant-loop-answer
invariant-loop-answer l = answer_in (answers_of (drop l.answer-index l.all)) (view_expr l.part) ≡ answer_in (answers_of l.all) (view_expr l.part)
