use Rattle.ref_heap.proofs.Renew.{renews, sole_kept}
use Rattle.ref_heap.proofs.Put.{next_free}
use Rattle.ref_heap.proofs.Places.{same_slots}
use Rattle.ref_heap.proofs.heap.Heap.renew.Goals as goal

pub rename-slot-requires-clause-live : goal.rename-slot-requires-clause-live
rename-slot-requires-clause-live c = sole_kept c.self.inside.made c.self.inside.slots c.self.inside.lost.items c.args.r.serial c.args.self.now c.self.view_is c.requires

pub rename-slot-requires-clause-absent : goal.rename-slot-requires-clause-absent
rename-slot-requires-clause-absent c = next_free c.self.inside.made c.self.inside.slots c.self.inside.slots c.self.inside.lost.items c.self.inside.numbered c.self.invariant.stands (same_slots c.self.inside.slots)

pub invariant_of-self : goal.invariant_of-self
invariant_of-self c = record { stands = (renews c.self.inside.made c.self.inside.slots c.rename-slot.new.slots c.self.inside.lost.items c.self.inside.numbered c.args.r.serial c.args.self.now c.self.invariant.stands c.self.view_is c.requires c.rename-slot.ensures.unique c.rename-slot.ensures.renamed).stands; room = c.self.invariant.room }

pub returns-clause-ok : goal.returns-clause-ok
returns-clause-ok c = (renews c.self.inside.made c.self.inside.slots c.rename-slot.new.slots c.self.inside.lost.items c.self.inside.numbered c.args.r.serial c.args.self.now c.self.invariant.stands c.self.view_is c.requires c.rename-slot.ensures.unique c.rename-slot.ensures.renamed).view

pub returns-clause-gone : goal.returns-clause-gone
returns-clause-gone c = (renews c.self.inside.made c.self.inside.slots c.rename-slot.new.slots c.self.inside.lost.items c.self.inside.numbered c.args.r.serial c.args.self.now c.self.invariant.stands c.self.view_is c.requires c.rename-slot.ensures.unique c.rename-slot.ensures.renamed).gone

pub returns-clause-outside : goal.returns-clause-outside
returns-clause-outside c = (renews c.self.inside.made c.self.inside.slots c.rename-slot.new.slots c.self.inside.lost.items c.self.inside.numbered c.args.r.serial c.args.self.now c.self.invariant.stands c.self.view_is c.requires c.rename-slot.ensures.unique c.rename-slot.ensures.renamed).outside
