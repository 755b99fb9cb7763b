use Rattle.std.proofs.Common.{◌≡◌, ◌≤◌, ◌+◌, map, drop}
use Rattle.slot_code.specs.View.{view_inst}
use Rattle.dis_objects.specs.Code.{sizes}
use Rattle.dis_objects.specs.Objects.{most_instructions}
use Rattle.dis_generation.proofs.sizes.end_of.Given as goal

abbrev pub invariant-loop-inst : goal.invariant-loop-inst
invariant-loop-inst l = record {
  within : l.end ≤ most_instructions;
  counted : l.end + sizes (map view_inst (drop l.inst-index l.insts)) ≡ l.begin + sizes (map view_inst l.insts);
}
