use Rattle.std.proofs.Common.{◌≡◌, ◌++◌, map}
use Rattle.std.specs.List.{range_with_len}
use Rattle.value_frames.specs.Frames.{reference_place}
use Rattle.value_operands.specs.Seen.{scene_of}
use Rattle.value_operands.proofs.scene.Scene.put_slots.Given as goal

abbrev pub invariant-loop-slot : goal.invariant-loop-slot
invariant-loop-slot l =
    l.offsets.items
    ≡ l.fn.offsets.items ++ map (λ s. reference_place (scene_of l.self).adts (scene_of l.self).variables s) (range_with_len 0 l.slot)
