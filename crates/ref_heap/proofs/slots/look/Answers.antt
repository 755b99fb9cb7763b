use Rattle.std.proofs.Common.{sym, ap, ◌∙◌}
use Rattle.std.specs.Option.{option_map}
use Rattle.ref_heap.specs.Slots.{block_of}
use Rattle.ref_heap.proofs.Places.{kept_here, kept_absent}
use Rattle.ref_heap.proofs.slots.look.Goals as goal

pub returns-in-Some : goal.returns-in-Some
returns-in-Some c = ap (option_map block_of) (c.get.ensures ∙ c.in-Some.ensures.found.is) ∙ sym (kept_here c.args.slots.now c.in-Some.i c.args.r.serial c.requires c.in-Some.ensures.found)

pub returns-in-None : goal.returns-in-None
returns-in-None c = sym (kept_absent c.args.slots.now c.args.r.serial c.in-None.ensures.absent)
