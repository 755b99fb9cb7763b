use Rattle.std.proofs.Common.{◌≡◌, ◌++◌, map, drop}
use Rattle.dis_machine.specs.Kept.{view_broken}
use Rattle.inferno_top.specs.Closing.{broken_lines}
use Rattle.inferno_top.proofs.closing.broken_lines.Given as goal

-- the lines so far, and those of the rest
abbrev pub invariant-loop-one : goal.invariant-loop-one
invariant-loop-one l = l.lines.items ++ broken_lines (map view_broken (drop l.one-index l.broken)) ≡ broken_lines (map view_broken l.broken)
