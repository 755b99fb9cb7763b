use Rattle.std.proofs.Common.{◌≡◌, ◌-◌}
use Rattle.system_model.specs.World.{least_from}
use Rattle.sys_print.specs.Marks.{AreMarks}
use Rattle.sys_print.proofs.outside.free_tag.Given as goal

abbrev pub invariant-loop-tag : goal.invariant-loop-tag
invariant-loop-tag l = AreMarks l.link.waiting.items l.marks.items × (l.tries ≡ Rattle.std.proofs.Common.length l.link.waiting.items) × (least_from (l.tries - l.tag) l.tag l.link.waiting.items ≡ least_from l.tries 0 l.link.waiting.items)
