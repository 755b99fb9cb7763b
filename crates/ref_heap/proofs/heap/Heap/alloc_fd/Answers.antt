use Rattle.std.proofs.Common.{◌∷◌, [], ap, ◌+◌, ◌≡◌, ℕ, sym, ◌∙◌, arith, subst}
use Rattle.std.proofs.Common.{◌≡◌, ℕ, List, ◌+◌, sym, ap, ◌∙◌, subst, arith}
use Rattle.ref_heap.specs.declared.kind.Kind.TheVariants.{Fd}
use Rattle.ref_heap.specs.Words.{Content, cells, naming}
use Rattle.ref_heap.specs.Store.{AreHeld, fresh, with_new}
use Rattle.ref_heap.specs.View.{Stands, heap_of}
use Rattle.ref_heap.proofs.Put.{same_stands, same_view, next_free, new_stands, new_view, err_any, plain_held}
use Rattle.ref_heap.specs.Words.{wide, plain}
use Rattle.ref_heap.specs.Store.{Store, IsHeap, outside, one}
use Rattle.ref_heap.proofs.Naming.{naming_cons}
use Rattle.ref_heap.proofs.Outside.{bare_outside}
use Rattle.ref_heap.proofs.heap.Heap.alloc_fd.Goals as goal

pub invariant_of-self : goal.invariant_of-self
invariant_of-self c =
    let i = c.self.invariant in
    record {
      stands = subst (λ (l : List ℕ). Stands c.self.inside.made c.self.inside.slots l c.self.inside.numbered) (sym c.room_for.ensures.items) i.stands;
      room = omega (arith, i.room, c.room_for.ensures.capacity);
    }

pub returns-in_err-numbered-clause-err : goal.returns-in_err-numbered-clause-err
returns-in_err-numbered-clause-err c = err_any _ _ (ap (heap_of c.self.inside.made c.self.inside.slots) c.room_for.ensures.items ∙ c.self.view_is)

pub invariant_of-self-in_err-make_room : goal.invariant_of-self-in_err-make_room
invariant_of-self-in_err-make_room c =
    let i = c.self.invariant in
    let s = same_stands c.self.inside.made c.self.inside.slots c.make_room.new.slots c.self.inside.lost.items c.self.inside.numbered i.stands c.make_room.ensures.unique c.make_room.ensures.same in
    record {
      stands = subst (λ (l : List ℕ). Stands c.self.inside.made c.make_room.new.slots l c.self.inside.numbered) (sym c.room_for.ensures.items) s;
      room = omega (arith, i.room, c.room_for.ensures.capacity);
    }

pub returns-in_err-make_room-clause-err : goal.returns-in_err-make_room-clause-err
returns-in_err-make_room-clause-err c =
    err_any _ _ (ap (heap_of c.self.inside.made c.make_room.new.slots) c.room_for.ensures.items
    ∙ same_view c.self.inside.made c.self.inside.slots c.make_room.new.slots c.self.inside.lost.items c.make_room.ensures.same ∙ c.self.view_is)

pub place-slot-requires-clause-absent : goal.place-slot-requires-clause-absent
place-slot-requires-clause-absent c = next_free c.self.inside.made c.self.inside.slots c.make_room.new.slots c.self.inside.lost.items c.self.inside.numbered c.self.invariant.stands c.make_room.ensures.same

pub invariant_of-self-2 : goal.invariant_of-self-2
invariant_of-self-2 c =
    let i = c.self.invariant in
    let s0 = same_stands c.self.inside.made c.self.inside.slots c.make_room.new.slots c.self.inside.lost.items c.self.inside.numbered i.stands c.make_room.ensures.unique c.make_room.ensures.same in
    let held = subst (λ (w : Content). AreHeld c.args.self.now (naming (cells w))) (sym c.in_ok-words.ensures) (plain_held c.args.self.now c.args.number) in
    let t = new_stands c.self.inside.made c.make_room.new.slots c.place-slot.new.slots c.self.inside.lost.items c.self.inside.numbered c.args.self.now (Fd c.args.number) c.in_ok-words.words s0
    (same_view c.self.inside.made c.self.inside.slots c.make_room.new.slots c.self.inside.lost.items c.make_room.ensures.same ∙ c.self.view_is) c.place-slot.ensures.unique c.place-slot.ensures.placed held in
    let s = subst (λ (l : List ℕ). Stands (c.self.inside.made + 1) c.place-slot.new.slots l (c.self.inside.numbered + 1)) (sym c.room_for.ensures.items) t in
    let room = c.in_ok-numbered.ensures.room in
    record { stands = record { unique = s.unique; heap = s.heap; counts = omega (arith, s.counts, room.0) }; room = room.1 }

pub returns-clause-ok : goal.returns-clause-ok
returns-clause-ok c =
    ap (heap_of (c.self.inside.made + 1) c.place-slot.new.slots) c.room_for.ensures.items
    ∙ subst (λ (w : Content). heap_of (c.self.inside.made + 1) c.place-slot.new.slots c.self.inside.lost.items ≡ with_new c.args.self.now (fresh (Fd c.args.number) w)) c.in_ok-words.ensures
    (new_view c.self.inside.made c.make_room.new.slots c.place-slot.new.slots c.self.inside.lost.items (fresh (Fd c.args.number) c.in_ok-words.words) c.args.self.now
    (same_view c.self.inside.made c.self.inside.slots c.make_room.new.slots c.self.inside.lost.items c.make_room.ensures.same ∙ c.self.view_is) c.place-slot.ensures.placed)

pub returns-clause-outside : goal.returns-clause-outside
returns-clause-outside c n =
    let a = bare_outside c.args.self.now _ (Fd c.args.number) (wide (plain c.args.number ∷ [])) (returns-clause-ok c) (subst (λ (v : Store). IsHeap v) c.self.view_is c.self.invariant.stands.heap) (λ q. naming_cons (plain c.args.number) [] q ∙ omega arith) n in
    let e : one c.args.self.now.made n ≡ one c.self.inside.made n = ap (λ (v : Store). one v.made n) (sym c.self.view_is) in
    a ∙ ap (λ (x : ℕ). outside c.args.self.now n + x) e
