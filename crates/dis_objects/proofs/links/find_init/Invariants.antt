use Rattle.std.proofs.Common.{◌≡◌, drop, map, codes}
use Rattle.slot_code.specs.View.{view_function}
use Rattle.dis_objects.specs.Objects.{find}
use Rattle.dis_objects.proofs.links.find_init.Given as goal

-- It is found among those that are left.
abbrev pub invariant-loop-number : goal.invariant-loop-number
invariant-loop-number l = find l.number (codes "init") (map view_function (drop l.number l.functions))
    ≡ find 0 (codes "init") (map view_function l.functions)
