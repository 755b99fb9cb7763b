use Rattle.std.proofs.lemmas.Result.{err_from_is_err_and}
use Rattle.std.specs.List.{flat_map}
use Rattle.dis_format.specs.Parts.{inst_parts}
use Rattle.dis_format.specs.Writing.{put_all}
use Rattle.dis_writing.proofs.Steps.{goes_on, ends}
use Rattle.dis_writing.proofs.instructions.put_insts.Goals as goal

pub returns-in_err-put_inst : goal.returns-in_err-put_inst
returns-in_err-put_inst c =
    let p = err_from_is_err_and c.from_residual.result c.from_residual.ensures.1 in
    rw (p.1, p.2)
    (ends inst_parts c.in_err-put_inst.field-0.0 c.args.insts.now c.loop-inst.inst-index _ c.loop-inst.out.items
    (put_all c.args.out.now.items (flat_map inst_parts c.args.insts.now)) c.loop-inst-test.true
    c.in_err-put_inst.ensures
    c.loop-inst.invariant)

pub loop-inst-preserved : goal.loop-inst-preserved
loop-inst-preserved c =
    goes_on inst_parts c.args.insts.now c.loop-inst.inst-index _ c.loop-inst.out.items c.put_inst.new.out.items
    (put_all c.args.out.now.items (flat_map inst_parts c.args.insts.now)) c.loop-inst-test.true c.in_ok-put_inst.ensures
    c.loop-inst.invariant
