use Rattle.std.proofs.Common.{◌≡◌, drop, map}
use Rattle.limbo_typed.specs.View.{view_function}
use Rattle.typed_part.specs.Part.{init_in}
use Rattle.typed_part.proofs.functions.has_init.Given as goal

abbrev pub invariant-loop-f : goal.invariant-loop-f
invariant-loop-f l = init_in (map view_function (drop l.f-index l.functions)) ≡ init_in (map view_function l.functions)
