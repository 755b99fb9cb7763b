use Rattle.std.proofs.Common.{◌≡◌, ◌++◌, map, drop}
use Rattle.limbo_typed.specs.View.{view_var}
use Rattle.limbo_meaning.specs.Program.{local}
use Rattle.core_frames.specs.Sizes.{types_in}
use Rattle.core_parts.specs.Aims.{view_aim}
use Rattle.core_writing.proofs.declaring.local_aims.Given as goal

abbrev pub invariant-loop-number : goal.invariant-loop-number
invariant-loop-number l =
    let types = types_in (map view_var l.variables) in
    map view_aim l.aims.items ++ map (local types) (drop l.number-index l.numbers) ≡ map (local types) l.numbers
