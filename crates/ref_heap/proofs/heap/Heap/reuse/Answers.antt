use Rattle.std.proofs.Common.{◌≡◌, ◌+◌, ◌-◌, length, refl, sym, ap, ◌∙◌, subst, arith}
use Rattle.ref_heap.specs.declared.kind.Kind.TheVariants.{Record}
use Rattle.ref_heap.specs.Words.{Content, cells, naming}
use Rattle.ref_heap.specs.Store.{AreHeld, Store, fresh, with_new}
use Rattle.ref_heap.specs.View.{heap_of}
use Rattle.ref_heap.proofs.Put.{new_stands, new_view, blank_held}
use Rattle.ref_heap.proofs.Reuse.{emptied, empty_room, alone_kept}
use Rattle.std.proofs.Common.{ℕ}
use Rattle.ref_heap.specs.Words.{wide}
use Rattle.ref_heap.specs.Store.{IsHeap, outside, one, blank_cells}
use Rattle.ref_heap.proofs.Put.{blank_names}
use Rattle.ref_heap.proofs.Reuse.{alone_held}
use Rattle.ref_heap.proofs.Outside.{reuse_outside}
use Rattle.ref_heap.proofs.heap.Heap.reuse.Goals as goal

pub empty-requires-clause-live : goal.empty-requires-clause-live
empty-requires-clause-live c = alone_kept c.self.inside.made c.self.inside.slots c.self.inside.lost.items c.args.r.serial c.args.self.now c.self.view_is c.requires

pub empty-requires-clause-room : goal.empty-requires-clause-room
empty-requires-clause-room c = empty_room c.self.inside.made c.self.inside.slots c.self.inside.lost.items c.self.inside.numbered _ c.args.r.serial c.args.self.now c.self.invariant.stands c.self.view_is c.requires c.self.invariant.room

pub overflow_sub-self : goal.overflow_sub-self
overflow_sub-self c =
    let r = emptied c.self.inside.made c.self.inside.slots c.empty.new.slots c.self.inside.lost.items c.empty.new.lost.items c.self.inside.numbered c.args.r.serial c.args.self.now
    c.self.invariant.stands c.self.view_is c.requires c.empty.ensures.unique c.empty.ensures.gone c.empty.ensures.listed c.empty.ensures.sorted in
    omega (arith, r.room, c.len.ensures)

pub place-slot-requires-clause-absent : goal.place-slot-requires-clause-absent
place-slot-requires-clause-absent c =
    (emptied c.self.inside.made c.self.inside.slots c.empty.new.slots c.self.inside.lost.items c.empty.new.lost.items c.self.inside.numbered c.args.r.serial c.args.self.now
    c.self.invariant.stands c.self.view_is c.requires c.empty.ensures.unique c.empty.ensures.gone c.empty.ensures.listed c.empty.ensures.sorted).free

pub invariant_of-self : goal.invariant_of-self
invariant_of-self c =
    let r = emptied c.self.inside.made c.self.inside.slots c.empty.new.slots c.self.inside.lost.items c.empty.new.lost.items c.self.inside.numbered c.args.r.serial c.args.self.now
    c.self.invariant.stands c.self.view_is c.requires c.empty.ensures.unique c.empty.ensures.gone c.empty.ensures.listed c.empty.ensures.sorted in
    let h = heap_of c.self.inside.made c.empty.new.slots c.empty.new.lost.items in
    let held = subst (λ (w : Content). AreHeld h (naming (cells w))) (sym c.in_ok-words.ensures) (blank_held h c.args.map.now) in
    let s = new_stands c.self.inside.made c.empty.new.slots c.place-slot.new.slots c.empty.new.lost.items (c.self.inside.numbered - length c.empty.new.lost.items) h Record c.in_ok-words.words
    r.stands refl c.place-slot.ensures.unique c.place-slot.ensures.placed held in
    record {
      stands = record { unique = s.unique; heap = s.heap; counts = omega (arith, s.counts, c.len.ensures) };
      room = omega (arith, r.room, c.empty.ensures.capacity, c.self.invariant.room);
    }

pub returns-clause-ok : goal.returns-clause-ok
returns-clause-ok c =
    let r = emptied c.self.inside.made c.self.inside.slots c.empty.new.slots c.self.inside.lost.items c.empty.new.lost.items c.self.inside.numbered c.args.r.serial c.args.self.now
    c.self.invariant.stands c.self.view_is c.requires c.empty.ensures.unique c.empty.ensures.gone c.empty.ensures.listed c.empty.ensures.sorted in
    let h = heap_of c.self.inside.made c.empty.new.slots c.empty.new.lost.items in
    let made : heap_of (c.self.inside.made + 1) c.place-slot.new.slots c.empty.new.lost.items ≡ with_new h (fresh Record c.in_ok-words.words)
    = new_view c.self.inside.made c.empty.new.slots c.place-slot.new.slots c.empty.new.lost.items (fresh Record c.in_ok-words.words) h refl c.place-slot.ensures.placed in
    record {
      middle = h;
      drops = r.drops;
      lists = r.lists;
      made = ap (λ (v : Store). v.made) c.self.view_is;
      makes = made ∙ ap (λ (w : Content). with_new h (fresh Record w)) c.in_ok-words.ensures;
    }

pub returns-clause-outside : goal.returns-clause-outside
returns-clause-outside c n =
    let a = reuse_outside c.args.self.now _ c.args.r.serial Record (wide (blank_cells c.args.map.now)) (subst (λ (v : Store). IsHeap v) c.self.view_is c.self.invariant.stands.heap) (alone_held c.args.self.now c.args.r.serial c.requires) (returns-clause-ok c) (λ q. blank_names c.args.map.now q) n in
    let e : one c.args.self.now.made n ≡ one c.self.inside.made n = ap (λ (v : Store). one v.made n) (sym c.self.view_is) in
    a ∙ ap (λ (x : ℕ). outside c.args.self.now n + x) e
