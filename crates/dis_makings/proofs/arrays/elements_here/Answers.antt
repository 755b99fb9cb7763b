use Rattle.std.specs.Option.{option_map}
use Rattle.ref_heap.specs.declared.word.Ref.{Ref}
use Rattle.dis_makings.proofs.Parts.{found_live}
use Rattle.dis_makings.proofs.arrays.elements_here.Goals as goal

pub returns-in-Ok-clause-live : goal.returns-in-Ok-clause-live
returns-in-Ok-clause-live c =
    found_live c.args.memory.now c.stands.ensures (option_map (λ (r : Ref). r.serial) c.in-Ok.array) c.elements_of.result c.elements_of.ensures
