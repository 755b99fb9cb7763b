use Rattle.std.proofs.Common.{◌≡◌, map, drop}
use Rattle.limbo_meaning.specs.Evaluation.{operands_for}
use Rattle.core_parts.specs.Aims.{view_aim}
use Rattle.core_parts.proofs.aims.behind_all.Given as goal

abbrev pub invariant-loop-aim : goal.invariant-loop-aim
invariant-loop-aim g l =
    drop (operands_for (map view_aim (drop l.aim-index l.aims))) l.rest ≡ drop (operands_for (map view_aim l.aims)) l.slots
