use Rattle.std.proofs.Common.{◌≡◌, drop, take}
use Rattle.std.specs.List.{AllByRecursion}
use Rattle.styx_msg.specs.Styx.{IsText}
use Rattle.styx_encoding.specs.Writing.{put_each}
use Rattle.styx_encoding.proofs.writing.add_each.Given as goal

abbrev pub invariant-loop-name : goal.invariant-loop-name
invariant-loop-name l = (put_each l.out.items (drop l.name-index l.wname) ≡ put_each l.fn.out.items l.wname)
    × AllByRecursion IsText (take l.name-index l.wname)
