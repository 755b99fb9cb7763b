use Rattle.std.proofs.Common.{◌≡◌, drop}
use Rattle.slot_code.specs.Layout.{end_of, place_in}
use Rattle.dis_objects.proofs.layout.place_in.Given as goal

-- It is the place among those that are left.
abbrev pub invariant-loop-kind : goal.invariant-loop-kind
invariant-loop-kind l = record {
  ends : end_of l.at (drop l.kind-index l.kinds) ≡ end_of l.from l.kinds;
  stands : place_in l.at (drop l.kind-index l.kinds) l.left ≡ place_in l.from l.kinds l.number;
}
