use Rattle.std.proofs.Common.{◌≡◌, drop}
use Rattle.std.specs.List.{flat_map}
use Rattle.dis_format.specs.Parts.{arm_parts}
use Rattle.dis_format.specs.Writing.{put_all}
use Rattle.dis_writing.proofs.sections.put_arms.Given as goal

abbrev pub invariant-loop-arm : goal.invariant-loop-arm
invariant-loop-arm l = put_all l.out.items (flat_map arm_parts (drop l.arm-index l.arms))
    ≡ put_all l.fn.out.items (flat_map arm_parts l.arms)
