use Rattle.std.proofs.Common.{◌≡◌, ◌≤◌, max, drop, map}
use Rattle.slot_code.specs.View.{view_function}
use Rattle.dis_objects.specs.Objects.{most_of_all}
use Rattle.dis_objects.proofs.types.most_of_all.Given as goal

abbrev pub invariant-loop-f : goal.invariant-loop-f
invariant-loop-f l = record {
  least : 36 ≤ l.most;
  walked : max l.most (most_of_all (map view_function (drop l.f-index l.functions))) ≡ most_of_all (map view_function l.functions);
}
