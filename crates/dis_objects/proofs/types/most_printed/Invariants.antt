use Rattle.std.proofs.Common.{◌≡◌, ◌≤◌, max, drop, map}
use Rattle.slot_code.specs.View.{view_inst}
use Rattle.dis_objects.specs.Objects.{most_printed}
use Rattle.dis_objects.proofs.types.most_printed.Given as goal

abbrev pub invariant-loop-inst : goal.invariant-loop-inst
invariant-loop-inst l = record {
  least : 36 ≤ l.most;
  walked : max l.most (most_printed (map view_inst (drop l.inst-index l.code))) ≡ most_printed (map view_inst l.code);
}
