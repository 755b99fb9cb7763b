use Rattle.std.proofs.Common.{◌≡◌, drop}
use Rattle.dis_format.specs.Parts.{types_parts}
use Rattle.dis_format.specs.Writing.{put_all}
use Rattle.dis_writing.proofs.sections.put_types.Given as goal

abbrev pub invariant-loop-place : goal.invariant-loop-place
invariant-loop-place l = put_all l.out.items (types_parts l.place (drop l.place l.types))
    ≡ put_all l.fn.out.items (types_parts 0 l.types)
