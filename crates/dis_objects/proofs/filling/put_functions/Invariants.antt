use Rattle.std.proofs.Common.{◌≡◌, ◌+◌, drop, map}
use Rattle.slot_code.specs.View.{view_function}
use Rattle.dis_objects.specs.declared.module_data.Data.{Data}
use Rattle.dis_objects.specs.Code.{data_bytes}
use Rattle.dis_objects.specs.Objects.{functions_data}
use Rattle.dis_objects.specs.Growing.{GrowsBy}
use Rattle.dis_objects.proofs.filling.put_functions.Given as goal

-- With the data of the functions that are left, the whole is added.
abbrev pub invariant-loop-function : goal.invariant-loop-function
invariant-loop-function l = record {
  places : l.store.place + data_bytes (functions_data (map view_function l.functions)
      (map view_function (drop l.function-index l.functions))) ≡ l.fn.store.place + data_bytes
      (functions_data (map view_function l.functions) (map view_function l.functions));
  grows : (d : Data) → GrowsBy l.store d (functions_data (map view_function l.functions)
      (map view_function (drop l.function-index l.functions))) → GrowsBy l.fn.store d
      (functions_data (map view_function l.functions) (map view_function l.functions));
}
