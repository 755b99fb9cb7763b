use Rattle.std.proofs.Common.{◌≡◌, drop}
use Rattle.slot_code.specs.Layout.{end_of}
use Rattle.dis_objects.proofs.layout.end_of.Given as goal

abbrev pub invariant-loop-kind : goal.invariant-loop-kind
invariant-loop-kind l = end_of l.end (drop l.kind-index l.kinds) ≡ end_of l.from l.kinds
