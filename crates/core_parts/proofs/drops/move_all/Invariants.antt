use Rattle.std.proofs.Common.{◌≡◌, map, drop}
use Rattle.core_code.specs.Terms.{drops_after_all}
use Rattle.core_parts.specs.Lowered.{code_of}
use Rattle.core_parts.specs.Nodes.{view_moved}
use Rattle.core_parts.proofs.drops.move_all.Given as goal

abbrev pub invariant-loop-moved : goal.invariant-loop-moved
invariant-loop-moved l =
    drops_after_all (map view_moved (drop l.moved-index l.moves)) (code_of l.drops.items)
    ≡ drops_after_all (map view_moved l.moves) (code_of l.initial.drops.items)
