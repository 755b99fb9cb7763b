use Rattle.std.proofs.Common.{◌≡◌, drop}
use Rattle.std.specs.Prelude.{max}
use Rattle.limbo_meaning.specs.Program.{long_enough}
use Rattle.core_writing.specs.Initialisers.{view_items}
use Rattle.core_writing.proofs.elements.long_enough.Given as goal

abbrev pub invariant-loop-item : goal.invariant-loop-item
invariant-loop-item l = max l.longest (long_enough (view_items (drop l.item-index l.items))) ≡ long_enough (view_items l.items)
