use Rattle.limbo_naming.specs.Qualified.{Simple}
use Rattle.limbo_naming.proofs.naming.Naming.declared.Goals as goal

pub returns-in-Some : goal.returns-in-Some
returns-in-Some c = record { declared = rw c.in-Some.is (c.part_declared.ensures.declared c.args.scope _ c.module_named.ensures.named) }

pub returns-in-Some-member : goal.returns-in-Some-member
returns-in-Some-member c = record { declared = rw (c.in-None.is, c.in-Some-member.is) (c.member_declared.ensures.declared c.args.scope (Simple c.args.name.now.first.text) c.name_named-outer.ensures.named) }
