use Rattle.std.proofs.Common.{◌≡◌, ◌++◌, ◌+◌, map, drop}
use Rattle.slot_code.specs.View.{view_function, view_module}
use Rattle.dis_objects.specs.Code.{data_bytes}
use Rattle.dis_objects.specs.Objects.{functions_code, functions_data}
use Rattle.dis_generation.proofs.functions.emit_functions.Given as goal

-- The code so far and that of the functions that are left are the whole; so are the data.
abbrev pub invariant-loop-number : goal.invariant-loop-number
invariant-loop-number l = record {
  made : l.insts.items ++ functions_code (view_module l.whole) l.number l.next (map view_function (drop l.number l.whole.functions.items))
      ≡ l.fn.insts.items ++ functions_code (view_module l.whole) 0 l.at (view_module l.whole).functions;
  counted : l.next + data_bytes (functions_data (view_module l.whole).functions (map view_function (drop l.number l.whole.functions.items)))
      ≡ l.at + data_bytes (functions_data (view_module l.whole).functions (view_module l.whole).functions);
}
