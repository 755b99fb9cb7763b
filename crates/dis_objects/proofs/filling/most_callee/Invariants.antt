use Rattle.std.proofs.Common.{◌≡◌, max, drop, map}
use Rattle.slot_code.specs.View.{view_inst, view_function}
use Rattle.dis_objects.specs.Objects.{most_callee}
use Rattle.dis_objects.proofs.filling.most_callee.Given as goal

abbrev pub invariant-loop-inst : goal.invariant-loop-inst
invariant-loop-inst l = max l.most (most_callee (map view_function l.functions) (map view_inst (drop l.inst-index l.code)))
    ≡ most_callee (map view_function l.functions) (map view_inst l.code)
