use Rattle.std.proofs.Common.{◌≡◌, ◌≤◌, length, drop}
use Rattle.dis_places.specs.Frames.{view_frames, count}
use Rattle.dis_places.proofs.frames.position.Given as goal

abbrev pub invariant-loop-left : goal.invariant-loop-left
invariant-loop-left l = record { within : l.left ≤ length l.frames; behind : count l.serial (view_frames (drop l.left l.frames)) ≡ 0 }

abbrev pub decreases-loop-left : goal.decreases-loop-left
decreases-loop-left l = l.left
