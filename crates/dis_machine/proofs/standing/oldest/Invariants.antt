use Rattle.std.proofs.Common.{◌≡◌, [], take}
use Rattle.dis_machine.specs.Kept.{frames_on}
use Rattle.dis_machine.proofs.standing.oldest.Given as goal

-- No request before this place goes over the link.
abbrev pub invariant-loop-place : goal.invariant-loop-place
invariant-loop-place l = frames_on l.link (take l.place l.requests) ≡ []
