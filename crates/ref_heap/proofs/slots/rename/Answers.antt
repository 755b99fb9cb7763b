use Rattle.std.proofs.Common.{sym, ap, ◌∙◌, subst}
use Rattle.ref_heap.specs.Slots.{Takes, kept}
use Rattle.ref_heap.proofs.Places.{kept_absent}
use Rattle.ref_heap.proofs.Renew.{taken_out, renamed_by}
use Rattle.ref_heap.proofs.slots.rename.Goals as goal

pub unreachable-requires-in-None : goal.unreachable-requires-in-None
unreachable-requires-in-None c = c.requires.live (kept_absent c.args.slots.now c.args.r.serial c.in-None.ensures.absent)

pub place-requires-clause-absent : goal.place-requires-clause-absent
place-requires-clause-absent c =
    let p = taken_out c.args.slots.now c.take.new.slots c.in-Some.i c.args.r.serial c.in-Some-take.block c.requires.unique c.in-Some.ensures.found (subst (λ o. Takes c.args.slots.now c.take.new.slots c.in-Some.i o) c.in-Some-take.is c.take.ensures.takes) in
    p.1.apart c.args.serial (λ e. c.requires.live (ap (kept c.args.slots.now) (sym e) ∙ c.requires.absent)) ∙ c.requires.absent

pub returns-clause-renamed : goal.returns-clause-renamed
returns-clause-renamed c = renamed_by c.args.slots.now c.take.new.slots c.place.new.slots c.in-Some.i c.args.r.serial c.args.serial c.in-Some-take.block c.requires.unique c.in-Some.ensures.found (subst (λ o. Takes c.args.slots.now c.take.new.slots c.in-Some.i o) c.in-Some-take.is c.take.ensures.takes) c.place.ensures.placed
