use Rattle.std.proofs.Common.{◌≡◌, ◌++◌, drop}
use Rattle.std.specs.List.{flat_map}
use Rattle.dis_text.specs.Listing.{arm_text}
use Rattle.dis_text.proofs.sections.put_arms.Given as goal

abbrev pub invariant-loop-arm : goal.invariant-loop-arm
invariant-loop-arm l = l.out.items ++ flat_map arm_text (drop l.arm-index l.arms)
    ≡ l.fn.out.items ++ flat_map arm_text l.arms
