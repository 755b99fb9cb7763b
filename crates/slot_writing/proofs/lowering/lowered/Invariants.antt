use Rattle.std.proofs.Common.{◌≡◌, ℕ, ◌<◌, ◌≤◌, map, take, get_or}
use Rattle.limbo_typed.specs.declared.module.TFn.{TFn}
use Rattle.limbo_typed.specs.View.{view_function}
use Rattle.slot_code.specs.View as slot
use Rattle.typed_lower.specs.Statements.{function_code}
use Rattle.typed_lower.specs.Sizes.{frame_size, largest_frame}
use Rattle.slot_writing.proofs.lowering.lowered.Given as goal

abbrev pub invariant-loop-f : goal.invariant-loop-f
invariant-loop-f l = record {
  made : map slot.view_function l.functions.items ≡ map function_code (map view_function (take l.f-index l.f-items));
  fits : (k : ℕ) (d : TFn) → k < l.f-index → frame_size (view_function (get_or l.f-items k d)) ≤ largest_frame;
}
