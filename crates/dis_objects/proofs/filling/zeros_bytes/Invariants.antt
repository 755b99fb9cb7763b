use Rattle.std.proofs.Common.{◌≡◌, max, drop, map}
use Rattle.slot_code.specs.View.{view_function}
use Rattle.dis_objects.specs.Objects.{zeros_bytes}
use Rattle.dis_objects.proofs.filling.zeros_bytes.Given as goal

abbrev pub invariant-loop-function : goal.invariant-loop-function
invariant-loop-function l = max l.most (zeros_bytes (map view_function l.functions) (map view_function (drop l.function-index l.functions)))
    ≡ zeros_bytes (map view_function l.functions) (map view_function l.functions)
