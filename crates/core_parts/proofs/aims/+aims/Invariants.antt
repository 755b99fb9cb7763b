use Rattle.std.proofs.Common.{◌≡◌, ◌++◌, map, drop}
use Rattle.limbo_typed.specs.View.{view_pattern, patterns_of}
use Rattle.limbo_meaning.specs.Program.{aims_among}
use Rattle.core_parts.specs.Aims.{view_aim}
use Rattle.core_parts.proofs.aims.+aims.Given as goal

abbrev pub invariant-add_aims_among-loop-i : goal.invariant-add_aims_among-loop-i
invariant-add_aims_among-loop-i l =
    map view_aim l.aims.items ++ aims_among l.part l.i (patterns_of (map view_pattern (drop l.i l.patterns)))
    ≡ map view_aim l.initial.aims.items ++ aims_among l.part 0 (patterns_of (map view_pattern l.patterns))
