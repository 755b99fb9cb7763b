use Rattle.std.proofs.Common.{◌≡◌, ◌+◌, drop, map, take}
use Rattle.slot_code.specs.View.{view_global}
use Rattle.dis_objects.specs.Code.{globals_bytes}
use Rattle.dis_objects.proofs.places.bytes_before.Given as goal

-- The bytes so far and those of the variables that are left, all of them or as many as are in front.
abbrev pub invariant-loop-global : goal.invariant-loop-global
invariant-loop-global l = record {
  within : l.bytes + globals_bytes (map view_global (drop l.global-index l.globals)) ≡ globals_bytes (map view_global l.globals);
  stands : l.bytes + globals_bytes (take l.left (map view_global (drop l.global-index l.globals)))
      ≡ globals_bytes (take l.number (map view_global l.globals));
}
