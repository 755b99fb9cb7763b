use Rattle.std.proofs.Common.{◌≡◌, ◌++◌}
use Rattle.value_frames.specs.Frames.{region_references}
use Rattle.value_tables.proofs.regions.put_region.Given as goal

-- The places of the slots so far are there.
abbrev pub invariant-loop-slot : goal.invariant-loop-slot
invariant-loop-slot l = l.places.items ≡ l.fn.places.items ++ region_references l.from l.slot
