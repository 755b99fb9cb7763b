use Rattle.std.proofs.Common.{ℕ, Option, true, ap, ◌∙◌, arith}
use Rattle.ref_heap.specs.Drops.{tells}
use Rattle.ref_heap.specs.Store.{fresh}
use Rattle.ref_heap.proofs.Put.{same_stands, same_view, next_free, new_stands, new_view, err_any}
use Rattle.std.proofs.Common.{◌≡◌, ◌+◌, sym, subst}
use Rattle.ref_heap.specs.Words.{cells, naming}
use Rattle.ref_heap.specs.Store.{Store, IsHeap, outside, one}
use Rattle.ref_heap.proofs.Outside.{new_outside}
use Rattle.ref_heap.proofs.heap.Heap.add.Goals as goal

pub invariant_of-self : goal.invariant_of-self
invariant_of-self c =
    let i = c.self.invariant in
    record { stands = same_stands c.self.inside.made c.self.inside.slots c.make_room.new.slots c.self.inside.lost.items c.self.inside.numbered i.stands c.make_room.ensures.unique c.make_room.ensures.same; room = i.room }

pub returns-in_err-make_room-clause-err : goal.returns-in_err-make_room-clause-err
returns-in_err-make_room-clause-err c = err_any _ _ (same_view c.self.inside.made c.self.inside.slots c.make_room.new.slots c.self.inside.lost.items c.make_room.ensures.same ∙ c.self.view_is)

pub place-slot-requires-clause-absent : goal.place-slot-requires-clause-absent
place-slot-requires-clause-absent c = next_free c.self.inside.made c.self.inside.slots c.make_room.new.slots c.self.inside.lost.items c.self.inside.numbered c.self.invariant.stands c.make_room.ensures.same

pub invariant_of-self-2 : goal.invariant_of-self-2
invariant_of-self-2 c =
    let i = c.self.invariant in
    let s0 = same_stands c.self.inside.made c.self.inside.slots c.make_room.new.slots c.self.inside.lost.items c.self.inside.numbered i.stands c.make_room.ensures.unique c.make_room.ensures.same in
    let s = new_stands c.self.inside.made c.make_room.new.slots c.place-slot.new.slots c.self.inside.lost.items c.self.inside.numbered c.args.self.now c.args.kind c.args.words s0
    (same_view c.self.inside.made c.self.inside.slots c.make_room.new.slots c.self.inside.lost.items c.make_room.ensures.same ∙ c.self.view_is) c.place-slot.ensures.unique c.place-slot.ensures.placed c.requires.held in
    let zero = ap (λ (o : Option ℕ). tells (λ _. true) o) c.requires.no_file in
    record { stands = record { unique = s.unique; heap = s.heap; counts = omega (arith, s.counts, zero) }; room = i.room }

pub returns-clause-ok : goal.returns-clause-ok
returns-clause-ok c =
    new_view c.self.inside.made c.make_room.new.slots c.place-slot.new.slots c.self.inside.lost.items (fresh c.args.kind c.args.words) c.args.self.now
    (same_view c.self.inside.made c.self.inside.slots c.make_room.new.slots c.self.inside.lost.items c.make_room.ensures.same ∙ c.self.view_is) c.place-slot.ensures.placed

pub returns-clause-outside : goal.returns-clause-outside
returns-clause-outside c n =
    let a = new_outside c.args.self.now c.args.kind c.args.words (subst (λ (v : Store). IsHeap v) c.self.view_is c.self.invariant.stands.heap) c.requires.held n in
    let e : one c.args.self.now.made n ≡ one c.self.inside.made n = ap (λ (v : Store). one v.made n) (sym c.self.view_is) in
    subst (λ (v : Store). outside v n + naming (cells c.args.words) n ≡ outside c.args.self.now n + one c.self.inside.made n) (sym (returns-clause-ok c)) (a ∙ ap (λ (x : ℕ). outside c.args.self.now n + x) e)
