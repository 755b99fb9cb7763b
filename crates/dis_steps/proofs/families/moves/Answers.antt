use Rattle.std.proofs.Common.{ap}
use Rattle.dis_places.specs.View.{view_process, view_world}
use Rattle.dis_results.proofs.Onward.{goes_same}
use Rattle.dis_steps.specs.Forms.{moves}
use Rattle.dis_steps.proofs.Left.{left_same, left_untouched}
use Rattle.dis_steps.proofs.families.moves.Goals as goal

pub returns-in-Word-clause-goes : goal.returns-in-Word-clause-goes
returns-in-Word-clause-goes c =
    let m = c.args.memory.now in
    let p = c.args.process.now in
    λ limit. goes_same m c.movw.new.memory p c.movw.new.process c.movw.result _ _
    (ap (moves limit c.args.code.now.object (view_world m) (view_process p) c.args.inst) c.in-Word.is) (c.movw.ensures.goes c.args.code.now.object)

pub returns-in-Word-clause-left : goal.returns-in-Word-clause-left
returns-in-Word-clause-left c =
    left_same c.args.memory.now c.movw.new.memory c.args.process.now c.movw.new.process c.movw.result c.movw.ensures.kept

pub returns-in-Reference-clause-goes : goal.returns-in-Reference-clause-goes
returns-in-Reference-clause-goes c =
    let m = c.args.memory.now in
    let p = c.args.process.now in
    λ limit. goes_same m c.movp.new.memory p c.movp.new.process c.movp.result _ _
    (ap (moves limit c.args.code.now.object (view_world m) (view_process p) c.args.inst) c.in-Reference.is) (c.movp.ensures.goes c.args.code.now.object)

pub returns-in-Reference-clause-left : goal.returns-in-Reference-clause-left
returns-in-Reference-clause-left c =
    left_same c.args.memory.now c.movp.new.memory c.args.process.now c.movp.new.process c.movp.result c.movp.ensures.kept

pub returns-in-Bytes-clause-goes : goal.returns-in-Bytes-clause-goes
returns-in-Bytes-clause-goes c =
    let m = c.args.memory.now in
    let p = c.args.process.now in
    λ limit. goes_same m c.movm.new.memory p c.movm.new.process c.movm.result _ _
    (ap (moves limit c.args.code.now.object (view_world m) (view_process p) c.args.inst) c.in-Bytes.is) (c.movm.ensures.goes c.args.code.now.object)

pub returns-in-Bytes-clause-left : goal.returns-in-Bytes-clause-left
returns-in-Bytes-clause-left c =
    left_same c.args.memory.now c.movm.new.memory c.args.process.now c.movm.new.process c.movm.result c.movm.ensures.kept

pub returns-in-Value-clause-goes : goal.returns-in-Value-clause-goes
returns-in-Value-clause-goes c =
    let m = c.args.memory.now in
    let p = c.args.process.now in
    λ limit. goes_same m c.movmp.new.memory p c.movmp.new.process c.movmp.result _ _
    (ap (moves limit c.args.code.now.object (view_world m) (view_process p) c.args.inst) c.in-Value.is) c.movmp.ensures.goes

pub returns-in-Value-clause-left : goal.returns-in-Value-clause-left
returns-in-Value-clause-left c =
    left_untouched c.args.memory.now c.movmp.new.memory c.args.process.now c.movmp.new.process c.movmp.result c.movmp.ensures.kept

pub returns-in-Address-clause-goes : goal.returns-in-Address-clause-goes
returns-in-Address-clause-goes c =
    let m = c.args.memory.now in
    let p = c.args.process.now in
    λ limit. goes_same m c.lea.new.memory p c.lea.new.process c.lea.result _ _
    (ap (moves limit c.args.code.now.object (view_world m) (view_process p) c.args.inst) c.in-Address.is) (c.lea.ensures.goes c.args.code.now.object)

pub returns-in-Address-clause-left : goal.returns-in-Address-clause-left
returns-in-Address-clause-left c =
    left_same c.args.memory.now c.lea.new.memory c.args.process.now c.lea.new.process c.lea.result c.lea.ensures.kept
