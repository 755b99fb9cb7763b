use Rattle.std.proofs.Common.{◌≡◌, ◌+◌, drop, map}
use Rattle.slot_code.specs.View.{view_global}
use Rattle.dis_objects.specs.Code.{globals_bytes}
use Rattle.dis_objects.proofs.places.data_place.Given as goal

abbrev pub invariant-loop-global : goal.invariant-loop-global
invariant-loop-global l = l.place + globals_bytes (map view_global (drop l.global-index l.globals))
    ≡ 8 + globals_bytes (map view_global l.globals)
