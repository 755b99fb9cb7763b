use Rattle.std.proofs.Common.{sym, ap}
use Rattle.ref_heap.specs.Store.{Block}
use Rattle.ref_heap.specs.Answers.{answer_for}
use Rattle.ref_heap.proofs.View.{at_looked}
use Rattle.ref_heap.proofs.heap.Heap.count_of.Goals as goal

pub returns-in-Some : goal.returns-in-Some
returns-in-Some c = sym (ap (answer_for (λ (b : Block). b.count)) (at_looked c.self.inside.made c.self.inside.slots c.self.inside.lost.items c.args.self.now c.args.r.serial _ _ c.self.view_is c.look.ensures c.in-Some.is))

pub returns-in-None : goal.returns-in-None
returns-in-None c = sym (ap (answer_for (λ (b : Block). b.count)) (at_looked c.self.inside.made c.self.inside.slots c.self.inside.lost.items c.args.self.now c.args.r.serial _ _ c.self.view_is c.look.ensures c.in-None.is))
