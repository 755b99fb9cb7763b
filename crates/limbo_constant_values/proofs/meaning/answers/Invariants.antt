use Rattle.std.proofs.Common.{take}
use Rattle.limbo_constants.specs.View.{view_parts}
use Rattle.limbo_constant_values.specs.Answers.{answers_of}
use Rattle.limbo_constant_values.specs.Asking.{AreAnswersOf}
use Rattle.limbo_constant_values.proofs.meaning.answers.Given as goal

-- what those so far mean was found
abbrev pub invariant-loop-part : goal.invariant-loop-part
invariant-loop-part l = AreAnswersOf l.naming l.place l.values (view_parts (take l.part-index l.parts)) (answers_of l.all.items)
