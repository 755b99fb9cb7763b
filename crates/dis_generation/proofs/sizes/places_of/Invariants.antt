use Rattle.std.proofs.Common.{◌≡◌, ◌++◌, ◌+◌, map, drop}
use Rattle.slot_code.specs.View.{view_inst}
use Rattle.dis_objects.specs.Code.{sizes}
use Rattle.dis_objects.specs.Sites.{places_from}
use Rattle.dis_generation.proofs.sizes.places_of.Given as goal

-- The places so far and those that are left are the whole.
abbrev pub invariant-loop-inst : goal.invariant-loop-inst
invariant-loop-inst l = record {
  made : l.places.items ++ places_from l.place (map view_inst (drop l.inst-index l.insts)) ≡ places_from l.begin (map view_inst l.insts);
  counted : l.place + sizes (map view_inst (drop l.inst-index l.insts)) ≡ l.begin + sizes (map view_inst l.insts);
}
