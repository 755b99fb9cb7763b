use Rattle.std.proofs.Common.{◌≡◌, Some, None, sym, ◌∙◌}
use Rattle.slab.specs.Slab.{get}
use Rattle.ref_heap.proofs.Places.{kept_at, changed_none, unique_changed}
use Rattle.ref_heap.proofs.slots.take.Goals as goal

pub returns-clause-unique : goal.returns-clause-unique
returns-clause-unique c = unique_changed c.args.slots.now c.try_remove.new.self c.args.link None c.requires c.try_remove.ensures.updates (λ s e. absurd cc)

pub returns-clause-takes : goal.returns-clause-takes
returns-clause-takes c = record {
  value = c.try_remove.ensures.value;
  gone = λ s e.
      let is : get c.args.slots.now c.args.link ≡ Some s = sym c.try_remove.ensures.value ∙ e in
      (kept_at c.args.slots.now c.args.link s c.requires is, (changed_none c.args.slots.now c.try_remove.new.self c.args.link s c.requires is c.try_remove.ensures.updates).1);
}
