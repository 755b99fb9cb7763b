use Rattle.std.proofs.Common.{ap}
use Rattle.dis_places.specs.View.{view_process, view_world}
use Rattle.dis_results.proofs.Onward.{goes_same}
use Rattle.dis_steps.specs.Forms.{on_lists}
use Rattle.dis_steps.proofs.Left.{left_same, left_untouched}
use Rattle.dis_steps.proofs.families.on_lists.Goals as goal

pub returns-in-Number-clause-goes : goal.returns-in-Number-clause-goes
returns-in-Number-clause-goes c =
    let m = c.args.memory.now in
    let p = c.args.process.now in
    λ limit. goes_same m c.cons_number.new.memory p c.cons_number.new.process c.cons_number.result _ _
    (ap (on_lists limit c.args.code.now.object (view_world m) (view_process p) c.args.inst) c.in-Number.is) (c.cons_number.ensures.goes c.args.code.now.object)

pub returns-in-Number-clause-left : goal.returns-in-Number-clause-left
returns-in-Number-clause-left c =
    left_untouched c.args.memory.now c.cons_number.new.memory c.args.process.now c.cons_number.new.process c.cons_number.result c.cons_number.ensures.kept

pub returns-in-Reference-clause-goes : goal.returns-in-Reference-clause-goes
returns-in-Reference-clause-goes c =
    let m = c.args.memory.now in
    let p = c.args.process.now in
    λ limit. goes_same m c.consp.new.memory p c.consp.new.process c.consp.result _ _
    (ap (on_lists limit c.args.code.now.object (view_world m) (view_process p) c.args.inst) c.in-Reference.is) (c.consp.ensures.goes c.args.code.now.object)

pub returns-in-Reference-clause-left : goal.returns-in-Reference-clause-left
returns-in-Reference-clause-left c =
    left_untouched c.args.memory.now c.consp.new.memory c.args.process.now c.consp.new.process c.consp.result c.consp.ensures.kept

pub returns-in-Bytes-clause-goes : goal.returns-in-Bytes-clause-goes
returns-in-Bytes-clause-goes c =
    let m = c.args.memory.now in
    let p = c.args.process.now in
    λ limit. goes_same m c.consm.new.memory p c.consm.new.process c.consm.result _ _
    (ap (on_lists limit c.args.code.now.object (view_world m) (view_process p) c.args.inst) c.in-Bytes.is) (c.consm.ensures.goes c.args.code.now.object)

pub returns-in-Bytes-clause-left : goal.returns-in-Bytes-clause-left
returns-in-Bytes-clause-left c =
    left_untouched c.args.memory.now c.consm.new.memory c.args.process.now c.consm.new.process c.consm.result c.consm.ensures.kept

pub returns-in-Value-clause-goes : goal.returns-in-Value-clause-goes
returns-in-Value-clause-goes c =
    let m = c.args.memory.now in
    let p = c.args.process.now in
    λ limit. goes_same m c.consmp.new.memory p c.consmp.new.process c.consmp.result _ _
    (ap (on_lists limit c.args.code.now.object (view_world m) (view_process p) c.args.inst) c.in-Value.is) c.consmp.ensures.goes

pub returns-in-Value-clause-left : goal.returns-in-Value-clause-left
returns-in-Value-clause-left c =
    left_untouched c.args.memory.now c.consmp.new.memory c.args.process.now c.consmp.new.process c.consmp.result c.consmp.ensures.kept

pub returns-in-HeadNumber-clause-goes : goal.returns-in-HeadNumber-clause-goes
returns-in-HeadNumber-clause-goes c =
    let m = c.args.memory.now in
    let p = c.args.process.now in
    λ limit. goes_same m c.head_number.new.memory p c.head_number.new.process c.head_number.result _ _
    (ap (on_lists limit c.args.code.now.object (view_world m) (view_process p) c.args.inst) c.in-HeadNumber.is) (c.head_number.ensures.goes c.args.code.now.object)

pub returns-in-HeadNumber-clause-left : goal.returns-in-HeadNumber-clause-left
returns-in-HeadNumber-clause-left c =
    left_same c.args.memory.now c.head_number.new.memory c.args.process.now c.head_number.new.process c.head_number.result c.head_number.ensures.kept

pub returns-in-HeadReference-clause-goes : goal.returns-in-HeadReference-clause-goes
returns-in-HeadReference-clause-goes c =
    let m = c.args.memory.now in
    let p = c.args.process.now in
    λ limit. goes_same m c.headp.new.memory p c.headp.new.process c.headp.result _ _
    (ap (on_lists limit c.args.code.now.object (view_world m) (view_process p) c.args.inst) c.in-HeadReference.is) (c.headp.ensures.goes c.args.code.now.object)

pub returns-in-HeadReference-clause-left : goal.returns-in-HeadReference-clause-left
returns-in-HeadReference-clause-left c =
    left_same c.args.memory.now c.headp.new.memory c.args.process.now c.headp.new.process c.headp.result c.headp.ensures.kept

pub returns-in-HeadBytes-clause-goes : goal.returns-in-HeadBytes-clause-goes
returns-in-HeadBytes-clause-goes c =
    let m = c.args.memory.now in
    let p = c.args.process.now in
    λ limit. goes_same m c.headm.new.memory p c.headm.new.process c.headm.result _ _
    (ap (on_lists limit c.args.code.now.object (view_world m) (view_process p) c.args.inst) c.in-HeadBytes.is) (c.headm.ensures.goes c.args.code.now.object)

pub returns-in-HeadBytes-clause-left : goal.returns-in-HeadBytes-clause-left
returns-in-HeadBytes-clause-left c =
    left_same c.args.memory.now c.headm.new.memory c.args.process.now c.headm.new.process c.headm.result c.headm.ensures.kept

pub returns-in-HeadValue-clause-goes : goal.returns-in-HeadValue-clause-goes
returns-in-HeadValue-clause-goes c =
    let m = c.args.memory.now in
    let p = c.args.process.now in
    λ limit. goes_same m c.headmp.new.memory p c.headmp.new.process c.headmp.result _ _
    (ap (on_lists limit c.args.code.now.object (view_world m) (view_process p) c.args.inst) c.in-HeadValue.is) c.headmp.ensures.goes

pub returns-in-HeadValue-clause-left : goal.returns-in-HeadValue-clause-left
returns-in-HeadValue-clause-left c =
    left_untouched c.args.memory.now c.headmp.new.memory c.args.process.now c.headmp.new.process c.headmp.result c.headmp.ensures.kept

pub returns-in-Rest-clause-goes : goal.returns-in-Rest-clause-goes
returns-in-Rest-clause-goes c =
    let m = c.args.memory.now in
    let p = c.args.process.now in
    λ limit. goes_same m c.tail.new.memory p c.tail.new.process c.tail.result _ _
    (ap (on_lists limit c.args.code.now.object (view_world m) (view_process p) c.args.inst) c.in-Rest.is) (c.tail.ensures.goes c.args.code.now.object)

pub returns-in-Rest-clause-left : goal.returns-in-Rest-clause-left
returns-in-Rest-clause-left c =
    left_same c.args.memory.now c.tail.new.memory c.args.process.now c.tail.new.process c.tail.result c.tail.ensures.kept

pub returns-in-Length-clause-goes : goal.returns-in-Length-clause-goes
returns-in-Length-clause-goes c =
    let m = c.args.memory.now in
    let p = c.args.process.now in
    λ limit. goes_same m c.lenl.new.memory p c.lenl.new.process c.lenl.result _ _
    (ap (on_lists limit c.args.code.now.object (view_world m) (view_process p) c.args.inst) c.in-Length.is) (c.lenl.ensures.goes c.args.code.now.object)

pub returns-in-Length-clause-left : goal.returns-in-Length-clause-left
returns-in-Length-clause-left c =
    left_same c.args.memory.now c.lenl.new.memory c.args.process.now c.lenl.new.process c.lenl.result c.lenl.ensures.kept
