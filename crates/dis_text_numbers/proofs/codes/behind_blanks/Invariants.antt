use Rattle.std.proofs.Common.{◌≡◌, length}
use Rattle.inf_text.specs.InFront.{behind_blanks}
use Rattle.dis_text_numbers.proofs.codes.behind_blanks.Given as goal

abbrev pub invariant-loop-rest : goal.invariant-loop-rest
invariant-loop-rest l = behind_blanks l.codes ≡ behind_blanks l.rest

abbrev pub decreases-loop-rest : goal.decreases-loop-rest
decreases-loop-rest l = length l.rest
