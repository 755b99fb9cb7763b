use Rattle.std.proofs.Common.{◌≡◌, ◌+◌, drop, map}
use Rattle.slot_code.specs.View.{view_global}
use Rattle.dis_objects.specs.declared.module_data.Data.{Data}
use Rattle.dis_objects.specs.Code.{globals_bytes}
use Rattle.dis_objects.specs.Objects.{globals_items, globals_words}
use Rattle.dis_objects.specs.Growing.{Grows}
use Rattle.dis_objects.proofs.filling.put_globals.Given as goal

-- With the variables that are left, the whole is added.
abbrev pub invariant-loop-global : goal.invariant-loop-global
invariant-loop-global l = record {
  places : l.store.place + globals_bytes (map view_global (drop l.global-index l.globals))
      ≡ l.fn.store.place + globals_bytes (map view_global l.globals);
  grows : (d : Data) → Grows l.store d (globals_items l.store.place (map view_global (drop l.global-index l.globals)))
      (globals_words (map view_global (drop l.global-index l.globals))) (globals_bytes (map view_global (drop l.global-index l.globals))) →
      Grows l.fn.store d (globals_items l.fn.store.place (map view_global l.globals)) (globals_words (map view_global l.globals))
      (globals_bytes (map view_global l.globals));
}
