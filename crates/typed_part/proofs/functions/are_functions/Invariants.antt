use Rattle.std.proofs.Common.{◌≡◌, drop, map}
use Rattle.limbo_typed.specs.View.{view_function, view_module}
use Rattle.typed_part.specs.Part.{all, is_function}
use Rattle.typed_part.proofs.functions.are_functions.Given as goal

abbrev pub invariant-loop-f : goal.invariant-loop-f
invariant-loop-f l =
    all (is_function (view_module l.module)) (map view_function (drop l.f-index l.module.functions.items))
    ≡ all (is_function (view_module l.module)) (map view_function l.module.functions.items)
