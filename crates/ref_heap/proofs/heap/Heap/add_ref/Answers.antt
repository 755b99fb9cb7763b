use Rattle.std.proofs.Common.{Some, sym, ◌∙◌, subst}
use Rattle.ref_heap.specs.Words.{Content}
use Rattle.ref_heap.specs.Store.{fresh}
use Rattle.ref_heap.specs.Slots.{Changed, kept}
use Rattle.ref_heap.proofs.Put.{same_stands, same_view, err_any}
use Rattle.ref_heap.proofs.RefTo.{referred, still_free, ref_fault, held_small}
use Rattle.ref_heap.proofs.heap.Heap.add_ref.Goals as goal

pub invariant_of-self : goal.invariant_of-self
invariant_of-self c = record { stands = (same_stands c.self.inside.made c.self.inside.slots c.make_room.new.slots c.self.inside.lost.items c.self.inside.numbered c.self.invariant.stands c.make_room.ensures.unique c.make_room.ensures.same); room = c.self.invariant.room }

pub returns-in_err-make_room-clause-err : goal.returns-in_err-make_room-clause-err
returns-in_err-make_room-clause-err c = err_any _ _ (same_view c.self.inside.made c.self.inside.slots c.make_room.new.slots c.self.inside.lost.items c.make_room.ensures.same ∙ c.self.view_is)

pub invariant_of-self-in-Err : goal.invariant_of-self-in-Err
invariant_of-self-in-Err c =
    record { stands = same_stands c.self.inside.made c.make_room.new.slots c.raise.new.slots c.self.inside.lost.items c.self.inside.numbered (same_stands c.self.inside.made c.self.inside.slots c.make_room.new.slots c.self.inside.lost.items c.self.inside.numbered c.self.invariant.stands c.make_room.ensures.unique c.make_room.ensures.same) c.raise.ensures.unique c.in-Err.ensures.err; room = c.self.invariant.room }

pub returns-in-Err-clause-fault : goal.returns-in-Err-clause-fault
returns-in-Err-clause-fault c = ref_fault c.self.inside.made c.self.inside.slots c.make_room.new.slots c.self.inside.lost.items c.args.r.serial c.args.self.now c.in-Err.fault c.self.view_is c.make_room.ensures.same c.requires.live (sym c.in-Err.is ∙ c.raise.ensures.answer)

pub returns-in-Err-clause-err : goal.returns-in-Err-clause-err
returns-in-Err-clause-err c = same_view c.self.inside.made c.make_room.new.slots c.raise.new.slots c.self.inside.lost.items c.in-Err.ensures.err ∙ (same_view c.self.inside.made c.self.inside.slots c.make_room.new.slots c.self.inside.lost.items c.make_room.ensures.same ∙ c.self.view_is)

pub place-slot-requires-clause-absent : goal.place-slot-requires-clause-absent
place-slot-requires-clause-absent c = still_free c.self.inside.made c.self.inside.slots c.make_room.new.slots c.raise.new.slots c.self.inside.lost.items c.self.inside.numbered c.args.r.serial c.args.self.now c.self.invariant.stands c.self.view_is c.make_room.ensures.same c.requires.live c.in-Ok.ensures.ok

pub invariant_of-self-2 : goal.invariant_of-self-2
invariant_of-self-2 c = record { stands = (referred c.self.inside.made c.self.inside.slots c.make_room.new.slots c.raise.new.slots c.place-slot.new.slots c.self.inside.lost.items c.self.inside.numbered c.args.r.serial c.args.kind c.args.self.now c.self.invariant.stands c.self.view_is c.make_room.ensures.unique c.make_room.ensures.same c.requires.live c.raise.ensures.unique c.in-Ok.ensures.ok c.place-slot.ensures.unique (subst (λ (w : Content). Changed (kept c.raise.new.slots) (kept c.place-slot.new.slots) c.self.inside.made (Some (fresh c.args.kind w))) c.in_ok-words.ensures c.place-slot.ensures.placed) c.requires.no_file).stands; room = c.self.invariant.room }

pub returns-clause-ok : goal.returns-clause-ok
returns-clause-ok c = (referred c.self.inside.made c.self.inside.slots c.make_room.new.slots c.raise.new.slots c.place-slot.new.slots c.self.inside.lost.items c.self.inside.numbered c.args.r.serial c.args.kind c.args.self.now c.self.invariant.stands c.self.view_is c.make_room.ensures.unique c.make_room.ensures.same c.requires.live c.raise.ensures.unique c.in-Ok.ensures.ok c.place-slot.ensures.unique (subst (λ (w : Content). Changed (kept c.raise.new.slots) (kept c.place-slot.new.slots) c.self.inside.made (Some (fresh c.args.kind w))) c.in_ok-words.ensures c.place-slot.ensures.placed) c.requires.no_file).view

pub returns-clause-outside : goal.returns-clause-outside
returns-clause-outside c = (referred c.self.inside.made c.self.inside.slots c.make_room.new.slots c.raise.new.slots c.place-slot.new.slots c.self.inside.lost.items c.self.inside.numbered c.args.r.serial c.args.kind c.args.self.now c.self.invariant.stands c.self.view_is c.make_room.ensures.unique c.make_room.ensures.same c.requires.live c.raise.ensures.unique c.in-Ok.ensures.ok c.place-slot.ensures.unique (subst (λ (w : Content). Changed (kept c.raise.new.slots) (kept c.place-slot.new.slots) c.self.inside.made (Some (fresh c.args.kind w))) c.in_ok-words.ensures c.place-slot.ensures.placed) c.requires.no_file).outside

pub returns-clause-full_count : goal.returns-clause-full_count
returns-clause-full_count c e = absurd (held_small c.self.inside.made c.self.inside.slots c.make_room.new.slots c.self.inside.lost.items c.args.r.serial c.args.self.now c.self.view_is c.make_room.ensures.same c.requires.live (sym c.in-Ok.is ∙ c.raise.ensures.answer) e)
