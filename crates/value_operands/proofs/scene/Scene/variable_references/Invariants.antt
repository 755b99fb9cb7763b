use Rattle.std.proofs.Common.{◌≡◌, ◌+◌, map, take}
use Rattle.value_frames.specs.Frames.{linkage_bytes}
use Rattle.value_operands.proofs.scene.Scene.variable_references.Given as goal

abbrev pub invariant-loop-offset : goal.invariant-loop-offset
invariant-loop-offset l = l.offsets.items ≡ map (λ o. linkage_bytes + o) (take l.offset-index l.offset-items)
