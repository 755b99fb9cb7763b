use Rattle.std.proofs.Common.{Option, sym, ap, ◌∙◌}
use Rattle.std.specs.Option.{option_map}
use Rattle.ref_heap.specs.Words.{cell_of}
use Rattle.ref_heap.specs.Store.{Block}
use Rattle.ref_heap.specs.Answers.{get_answer, found}
use Rattle.ref_heap.proofs.View.{at_looked}
use Rattle.ref_heap.proofs.heap.Heap.get.Goals as goal

pub returns-in-Some-get : goal.returns-in-Some-get
returns-in-Some-get c =
    ap found (sym (ap (option_map cell_of) c.in-Some-get.is) ∙ c.get.ensures)
    ∙ sym (ap (λ (b : Option Block). get_answer b c.args.i) (at_looked c.self.inside.made c.self.inside.slots c.self.inside.lost.items c.args.self.now c.args.r.serial _ _ c.self.view_is c.look.ensures c.in-Some.is))

pub returns-in-None-get : goal.returns-in-None-get
returns-in-None-get c =
    ap found (sym (ap (option_map cell_of) c.in-None-get.is) ∙ c.get.ensures)
    ∙ sym (ap (λ (b : Option Block). get_answer b c.args.i) (at_looked c.self.inside.made c.self.inside.slots c.self.inside.lost.items c.args.self.now c.args.r.serial _ _ c.self.view_is c.look.ensures c.in-Some.is))

pub returns-in-None : goal.returns-in-None
returns-in-None c = sym (ap (λ (b : Option Block). get_answer b c.args.i) (at_looked c.self.inside.made c.self.inside.slots c.self.inside.lost.items c.args.self.now c.args.r.serial _ _ c.self.view_is c.look.ensures c.in-None.is))
