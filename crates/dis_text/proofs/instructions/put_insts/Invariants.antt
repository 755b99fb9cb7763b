use Rattle.std.proofs.Common.{◌≡◌, ◌++◌, drop}
use Rattle.dis_text.specs.Listing.{numbered, inst_line}
use Rattle.dis_text.proofs.instructions.put_insts.Given as goal

abbrev pub invariant-loop-pc : goal.invariant-loop-pc
invariant-loop-pc l = l.out.items ++ numbered inst_line l.pc (drop l.pc l.insts)
    ≡ l.fn.out.items ++ numbered inst_line 0 l.insts
