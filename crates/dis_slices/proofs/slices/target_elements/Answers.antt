use Rattle.dis_memory.specs.Places.{source_reference}
use Rattle.dis_places.specs.View.{view_process, view_world}
use Rattle.dis_slices.proofs.Elements.{found_array}
use Rattle.dis_slices.proofs.slices.target_elements.Goals as goal

pub returns-clause-array : goal.returns-clause-array
returns-clause-array c =
    found_array c.args.memory.now (source_reference (view_world c.args.memory.now) (view_process c.args.process.now) c.args.destination) c.source_elements.result c.source_elements.ensures
