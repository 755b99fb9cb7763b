use Rattle.std.proofs.Common.{◌≡◌, max, drop, map}
use Rattle.slot_code.specs.View.{view_inst}
use Rattle.dis_objects.specs.Frames.{count}
use Rattle.dis_objects.proofs.room.count.Given as goal

abbrev pub invariant-loop-inst : goal.invariant-loop-inst
invariant-loop-inst l = max l.most (count l.kind (map view_inst (drop l.inst-index l.code))) ≡ count l.kind (map view_inst l.code)
