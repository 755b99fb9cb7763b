use Rattle.std.proofs.Common.{drop}
use Rattle.sys_print.proofs.Tags.{Marking}
use Rattle.sys_print.proofs.outside.marks_of.Given as goal

abbrev pub invariant-loop-tag : goal.invariant-loop-tag
invariant-loop-tag l = Marking l.waiting (drop l.tag-index l.waiting) l.marks.items
