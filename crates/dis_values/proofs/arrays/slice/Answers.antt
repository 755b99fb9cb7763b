use Rattle.ref_heap.specs.declared.word.Ref.{Ref}
use Rattle.dis_values.specs.Arrays.{Slices, part_of}
use Rattle.dis_values.proofs.Packed.{sliced_plain}
use Rattle.dis_values.proofs.Marked.{sliced_marked}
use Rattle.dis_values.proofs.Sliced.{Sliced, slices, sliced_ok, if_map}
use Rattle.dis_values.proofs.arrays.slice.Goals as goal

pub returns-clause-ok : goal.returns-clause-ok
returns-clause-ok c =
    slices c.add_ref.result c.args.heap.now c.add_ref.new.self c.args.array.serial c.part-whole.result.array.serial c.part-whole.result.from c.args.from c.args.to c.requires.array
    c.part-whole.ensures.array c.part-whole.ensures.from c.add_ref.ensures.serial c.add_ref.ensures.ok c.add_ref.ensures.outside

pub returns-clause-elements : goal.returns-clause-elements
returns-clause-elements c =
    if_map c.add_ref.result _ _ (λ (m : Ref) (s : Sliced c.args.heap.now c.add_ref.new.self c.args.array.serial c.args.from c.args.to m.serial). s.elements_are)
    (sliced_ok c.add_ref.result c.args.heap.now c.add_ref.new.self c.args.array.serial c.args.from c.args.to c.stands.ensures c.requires.array c.requires.rising c.requires.within (returns-clause-ok c))

pub returns-clause-array : goal.returns-clause-array
returns-clause-array c =
    if_map c.add_ref.result _ _ (λ (m : Ref) (s : Sliced c.args.heap.now c.add_ref.new.self c.args.array.serial c.args.from c.args.to m.serial). s.array)
    (sliced_ok c.add_ref.result c.args.heap.now c.add_ref.new.self c.args.array.serial c.args.from c.args.to c.stands.ensures c.requires.array c.requires.rising c.requires.within (returns-clause-ok c))

pub returns-clause-plain : goal.returns-clause-plain
returns-clause-plain c =
    if_map c.add_ref.result _ _ (λ (m : Ref) (s : Slices c.args.heap.now c.add_ref.new.self
    (part_of c.args.heap.now c.args.array.serial) c.args.from c.args.to m.serial) size a.
    sliced_plain c.args.heap.now c.add_ref.new.self c.args.array.serial c.args.from c.args.to m.serial size c.stands.ensures a
    c.requires.rising c.requires.within s)
    (returns-clause-ok c)

pub returns-clause-marked : goal.returns-clause-marked
returns-clause-marked c =
    if_map c.add_ref.result _ _
    (λ (m : Ref) (s : Slices c.args.heap.now c.add_ref.new.self (part_of c.args.heap.now c.args.array.serial) c.args.from c.args.to
    m.serial) size marks a.
    sliced_marked c.args.heap.now c.add_ref.new.self c.args.array.serial c.args.from c.args.to m.serial size marks c.stands.ensures a
    c.requires.rising
    c.requires.within s)
    (returns-clause-ok c)
