use Rattle.std.proofs.Common.{◌≡◌, length}
use Rattle.inf_text.specs.InFront.{behind_blanks}
use Rattle.inf_text.proofs.number.behind_blanks.Given as goal

abbrev pub invariant-loop-rest : goal.invariant-loop-rest
invariant-loop-rest l = behind_blanks l.chars ≡ behind_blanks l.rest

abbrev pub decreases-loop-rest : goal.decreases-loop-rest
decreases-loop-rest l = length l.rest
