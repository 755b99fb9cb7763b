use Rattle.std.proofs.Common.{◌≡◌, max, drop, map, []}
use Rattle.slot_code.specs.View.{view_inst, view_function}
use Rattle.dis_objects.specs.Frames.{most_bytes}
use Rattle.dis_objects.specs.Sites.{made_of, IsCounted}
use Rattle.dis_objects.proofs.room.most_bytes.Given as goal

abbrev pub invariant-loop-inst : goal.invariant-loop-inst
invariant-loop-inst l = record {
  counted : IsCounted (map view_function l.functions) l.making;
  walked : max l.most (most_bytes (map view_function l.functions) (made_of l.making) (map view_inst (drop l.inst-index l.code)))
      ≡ most_bytes (map view_function l.functions) [] (map view_inst l.code);
}
