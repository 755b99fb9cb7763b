use Rattle.std.proofs.Common.{◌≡◌, drop}
use Rattle.std.specs.List.{flat_map}
use Rattle.dis_format.specs.Parts.{inst_parts}
use Rattle.dis_format.specs.Writing.{put_all}
use Rattle.dis_writing.proofs.instructions.put_insts.Given as goal

abbrev pub invariant-loop-inst : goal.invariant-loop-inst
invariant-loop-inst l = put_all l.out.items (flat_map inst_parts (drop l.inst-index l.insts))
    ≡ put_all l.fn.out.items (flat_map inst_parts l.insts)
