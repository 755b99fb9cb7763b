use Rattle.std.proofs.Common.{◌≡◌, ◌+◌, ◌≤◌, drop, map, []}
use Rattle.slot_code.specs.View.{view_inst, view_function}
use Rattle.dis_objects.specs.declared.module_data.Data.{Data}
use Rattle.dis_objects.specs.Frames.{most_bytes}
use Rattle.dis_objects.specs.Code.{insts_data, data_bytes}
use Rattle.dis_objects.specs.Words.{frame_limit}
use Rattle.dis_objects.specs.Sites.{made_of, IsCounted}
use Rattle.dis_objects.specs.Growing.{GrowsBy}
use Rattle.dis_objects.proofs.filling.put_code.Given as goal

-- With the data of the instructions that are left, the whole is added.
abbrev pub invariant-loop-inst : goal.invariant-loop-inst
invariant-loop-inst l = record {
  counted : IsCounted (map view_function l.functions) l.making;
  small : most_bytes (map view_function l.functions) (made_of l.making) (map view_inst (drop l.inst-index l.code)) ≤ frame_limit;
  places : l.store.place + data_bytes (insts_data (map view_function l.functions) l.answer (made_of l.making)
      (map view_inst (drop l.inst-index l.code))) ≡ l.fn.store.place + data_bytes
      (insts_data (map view_function l.functions) l.answer [] (map view_inst l.code));
  grows : (d : Data) → GrowsBy l.store d (insts_data (map view_function l.functions) l.answer (made_of l.making)
      (map view_inst (drop l.inst-index l.code))) → GrowsBy l.fn.store d
      (insts_data (map view_function l.functions) l.answer [] (map view_inst l.code));
}
