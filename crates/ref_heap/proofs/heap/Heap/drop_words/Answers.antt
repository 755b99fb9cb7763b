use Rattle.std.proofs.Common.{arith}
use Rattle.ref_heap.proofs.View.{releasable, released}
use Rattle.std.proofs.Common.{ap}
use Rattle.std.specs.Prelude.{map}
use Rattle.ref_heap.specs.Words.{cell_of, naming}
use Rattle.ref_heap.specs.Store.{Store}
use Rattle.ref_heap.specs.View.{heap_of}
use Rattle.ref_heap.proofs.Outside.{drop_outside}
use Rattle.ref_heap.proofs.heap.Heap.drop_words.Goals as goal

pub release-requires : goal.release-requires
release-requires c = releasable c.self.inside.made c.self.inside.slots c.self.inside.lost.items c.args.words.now _ c.self.inside.numbered c.args.self.now c.self.invariant.stands c.self.view_is c.requires c.self.invariant.room

pub overflow_sub-self : goal.overflow_sub-self
overflow_sub-self c =
    let r = released c.self.inside.made c.self.inside.slots c.release.new.slots c.self.inside.lost.items c.release.new.lost.items c.args.words.now c.self.inside.numbered c.args.self.now c.self.invariant.stands c.self.view_is c.requires c.release.ensures.frees c.release.ensures.sorted in
    omega (arith, r.room, c.len.ensures)

pub invariant_of-self : goal.invariant_of-self
invariant_of-self c =
    let r = released c.self.inside.made c.self.inside.slots c.release.new.slots c.self.inside.lost.items c.release.new.lost.items c.args.words.now c.self.inside.numbered c.args.self.now c.self.invariant.stands c.self.view_is c.requires c.release.ensures.frees c.release.ensures.sorted in
    record {
      stands = record { unique = c.release.ensures.unique; heap = r.heap; counts = omega (arith, r.room, c.len.ensures) };
      room = omega (arith, r.room, c.len.ensures, c.release.ensures.capacity, c.self.invariant.room);
    }

pub returns-clause-drops : goal.returns-clause-drops
returns-clause-drops c =
    (released c.self.inside.made c.self.inside.slots c.release.new.slots c.self.inside.lost.items c.release.new.lost.items c.args.words.now c.self.inside.numbered c.args.self.now c.self.invariant.stands c.self.view_is c.requires c.release.ensures.frees c.release.ensures.sorted).drops

pub returns-clause-lists : goal.returns-clause-lists
returns-clause-lists c =
    (released c.self.inside.made c.self.inside.slots c.release.new.slots c.self.inside.lost.items c.release.new.lost.items c.args.words.now c.self.inside.numbered c.args.self.now c.self.invariant.stands c.self.view_is c.requires c.release.ensures.frees c.release.ensures.sorted).lists

pub returns-clause-outside : goal.returns-clause-outside
returns-clause-outside c = drop_outside c.args.self.now (heap_of c.self.inside.made c.release.new.slots c.release.new.lost.items) (naming (map cell_of c.args.words.now)) (ap (λ (v : Store). v.made) c.self.view_is) c.requires (returns-clause-drops c)
