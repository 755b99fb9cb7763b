use Rattle.std.proofs.Common.{ap}
use Rattle.dis_places.specs.View.{view_process, view_world}
use Rattle.dis_results.proofs.Onward.{goes_same}
use Rattle.dis_steps.specs.Forms.{on_channels}
use Rattle.dis_steps.proofs.Left.{left_same}
use Rattle.dis_steps.proofs.families.on_channels.Goals as goal

pub returns-in-Of-clause-goes : goal.returns-in-Of-clause-goes
returns-in-Of-clause-goes c =
    let m = c.args.memory.now in
    let p = c.args.process.now in
    λ limit. goes_same m c.newc.new.memory p c.newc.new.process c.newc.result _ _
    (ap (on_channels limit c.args.code.now.object (view_world m) (view_process p) c.args.inst) c.in-Of.is) c.newc.ensures.goes

pub returns-in-Of-clause-left : goal.returns-in-Of-clause-left
returns-in-Of-clause-left c =
    left_same c.args.memory.now c.newc.new.memory c.args.process.now c.newc.new.process c.newc.result c.newc.ensures.kept

pub returns-in-Bytes-clause-goes : goal.returns-in-Bytes-clause-goes
returns-in-Bytes-clause-goes c =
    let m = c.args.memory.now in
    let p = c.args.process.now in
    λ limit. goes_same m c.newcm.new.memory p c.newcm.new.process c.newcm.result _ _
    (ap (on_channels limit c.args.code.now.object (view_world m) (view_process p) c.args.inst) c.in-Bytes.is) c.newcm.ensures.goes

pub returns-in-Bytes-clause-left : goal.returns-in-Bytes-clause-left
returns-in-Bytes-clause-left c =
    left_same c.args.memory.now c.newcm.new.memory c.args.process.now c.newcm.new.process c.newcm.result c.newcm.ensures.kept

pub returns-in-Value-clause-goes : goal.returns-in-Value-clause-goes
returns-in-Value-clause-goes c =
    let m = c.args.memory.now in
    let p = c.args.process.now in
    λ limit. goes_same m c.newcmp.new.memory p c.newcmp.new.process c.newcmp.result _ _
    (ap (on_channels limit c.args.code.now.object (view_world m) (view_process p) c.args.inst) c.in-Value.is) c.newcmp.ensures.goes

pub returns-in-Value-clause-left : goal.returns-in-Value-clause-left
returns-in-Value-clause-left c =
    left_same c.args.memory.now c.newcmp.new.memory c.args.process.now c.newcmp.new.process c.newcmp.result c.newcmp.ensures.kept
