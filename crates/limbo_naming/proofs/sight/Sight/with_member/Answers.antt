use Rattle.limbo_naming.proofs.sight.Sight.with_member.Goals as goal

pub returns-in-None : goal.returns-in-None
returns-in-None c = λ scope q s. rw c.in-None.is s

pub returns-in-Some : goal.returns-in-Some
returns-in-Some c = λ scope q s. rw c.in-Some.is (c.member.ensures scope q s)
