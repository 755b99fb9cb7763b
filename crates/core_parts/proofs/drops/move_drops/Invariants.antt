use Rattle.std.proofs.Common.{◌≡◌, take, drop, length}
use Rattle.core_code.specs.Terms.{drops_after}
use Rattle.core_parts.specs.Lowered.{code_of}
use Rattle.core_parts.specs.Nodes.{view_moved}
use Rattle.core_parts.proofs.drops.move_drops.Given as goal

abbrev pub invariant-loop-i : goal.invariant-loop-i
invariant-loop-i l = record {
  before : code_of (take l.i l.drops.items) ≡ drops_after (view_moved l.moved) (code_of (take l.i l.initial.drops.items));
  behind : drop l.i l.drops.items ≡ drop l.i l.initial.drops.items;
  long : length l.drops.items ≡ length l.initial.drops.items;
}
