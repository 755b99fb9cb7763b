use Rattle.std.proofs.Common.{ap}
use Rattle.dis_places.specs.View.{view_process, view_world}
use Rattle.dis_results.proofs.Onward.{goes_same}
use Rattle.dis_steps.specs.Forms.{on_texts}
use Rattle.dis_steps.proofs.Left.{left_same}
use Rattle.dis_steps.proofs.families.on_texts.Goals as goal

pub returns-in-Join-clause-goes : goal.returns-in-Join-clause-goes
returns-in-Join-clause-goes c =
    let m = c.args.memory.now in
    let p = c.args.process.now in
    λ limit. goes_same m c.addc.new.memory p c.addc.new.process c.addc.result _ _
    (ap (on_texts limit c.args.code.now.object (view_world m) (view_process p) c.args.inst) c.in-Join.is) (c.addc.ensures.goes c.args.code.now.object)

pub returns-in-Join-clause-left : goal.returns-in-Join-clause-left
returns-in-Join-clause-left c =
    left_same c.args.memory.now c.addc.new.memory c.args.process.now c.addc.new.process c.addc.result c.addc.ensures.kept

pub returns-in-Length-clause-goes : goal.returns-in-Length-clause-goes
returns-in-Length-clause-goes c =
    let m = c.args.memory.now in
    let p = c.args.process.now in
    λ limit. goes_same m c.lenc.new.memory p c.lenc.new.process c.lenc.result _ _
    (ap (on_texts limit c.args.code.now.object (view_world m) (view_process p) c.args.inst) c.in-Length.is) (c.lenc.ensures.goes c.args.code.now.object)

pub returns-in-Length-clause-left : goal.returns-in-Length-clause-left
returns-in-Length-clause-left c =
    left_same c.args.memory.now c.lenc.new.memory c.args.process.now c.lenc.new.process c.lenc.result c.lenc.ensures.kept

pub returns-in-Character-clause-goes : goal.returns-in-Character-clause-goes
returns-in-Character-clause-goes c =
    let m = c.args.memory.now in
    let p = c.args.process.now in
    λ limit. goes_same m c.indc.new.memory p c.indc.new.process c.indc.result _ _
    (ap (on_texts limit c.args.code.now.object (view_world m) (view_process p) c.args.inst) c.in-Character.is) (c.indc.ensures.goes c.args.code.now.object)

pub returns-in-Character-clause-left : goal.returns-in-Character-clause-left
returns-in-Character-clause-left c =
    left_same c.args.memory.now c.indc.new.memory c.args.process.now c.indc.new.process c.indc.result c.indc.ensures.kept

pub returns-in-Insert-clause-goes : goal.returns-in-Insert-clause-goes
returns-in-Insert-clause-goes c =
    let m = c.args.memory.now in
    let p = c.args.process.now in
    λ limit. goes_same m c.insc.new.memory p c.insc.new.process c.insc.result _ _
    (ap (on_texts limit c.args.code.now.object (view_world m) (view_process p) c.args.inst) c.in-Insert.is) (c.insc.ensures.goes c.args.code.now.object)

pub returns-in-Insert-clause-left : goal.returns-in-Insert-clause-left
returns-in-Insert-clause-left c =
    left_same c.args.memory.now c.insc.new.memory c.args.process.now c.insc.new.process c.insc.result c.insc.ensures.kept

pub returns-in-Part-clause-goes : goal.returns-in-Part-clause-goes
returns-in-Part-clause-goes c =
    let m = c.args.memory.now in
    let p = c.args.process.now in
    λ limit. goes_same m c.slicec.new.memory p c.slicec.new.process c.slicec.result _ _
    (ap (on_texts limit c.args.code.now.object (view_world m) (view_process p) c.args.inst) c.in-Part.is) (c.slicec.ensures.goes c.args.code.now.object)

pub returns-in-Part-clause-left : goal.returns-in-Part-clause-left
returns-in-Part-clause-left c =
    left_same c.args.memory.now c.slicec.new.memory c.args.process.now c.slicec.new.process c.slicec.result c.slicec.ensures.kept

pub returns-in-OfNumber-clause-goes : goal.returns-in-OfNumber-clause-goes
returns-in-OfNumber-clause-goes c =
    let m = c.args.memory.now in
    let p = c.args.process.now in
    λ limit. goes_same m c.text_of_number.new.memory p c.text_of_number.new.process c.text_of_number.result _ _
    (ap (on_texts limit c.args.code.now.object (view_world m) (view_process p) c.args.inst) c.in-OfNumber.is) (c.text_of_number.ensures.goes c.args.code.now.object)

pub returns-in-OfNumber-clause-left : goal.returns-in-OfNumber-clause-left
returns-in-OfNumber-clause-left c =
    left_same c.args.memory.now c.text_of_number.new.memory c.args.process.now c.text_of_number.new.process c.text_of_number.result c.text_of_number.ensures.kept

pub returns-in-ToNumber-clause-goes : goal.returns-in-ToNumber-clause-goes
returns-in-ToNumber-clause-goes c =
    let m = c.args.memory.now in
    let p = c.args.process.now in
    λ limit. goes_same m c.number_of_text.new.memory p c.number_of_text.new.process c.number_of_text.result _ _
    (ap (on_texts limit c.args.code.now.object (view_world m) (view_process p) c.args.inst) c.in-ToNumber.is) (c.number_of_text.ensures.goes c.args.code.now.object)

pub returns-in-ToNumber-clause-left : goal.returns-in-ToNumber-clause-left
returns-in-ToNumber-clause-left c =
    left_same c.args.memory.now c.number_of_text.new.memory c.args.process.now c.number_of_text.new.process c.number_of_text.result c.number_of_text.ensures.kept

pub returns-in-ToBytes-clause-goes : goal.returns-in-ToBytes-clause-goes
returns-in-ToBytes-clause-goes c =
    let m = c.args.memory.now in
    let p = c.args.process.now in
    λ limit. goes_same m c.cvtca.new.memory p c.cvtca.new.process c.cvtca.result _ _
    (ap (on_texts limit c.args.code.now.object (view_world m) (view_process p) c.args.inst) c.in-ToBytes.is) (c.cvtca.ensures.goes c.args.code.now.object)

pub returns-in-ToBytes-clause-left : goal.returns-in-ToBytes-clause-left
returns-in-ToBytes-clause-left c =
    left_same c.args.memory.now c.cvtca.new.memory c.args.process.now c.cvtca.new.process c.cvtca.result c.cvtca.ensures.kept

pub returns-in-OfBytes-clause-goes : goal.returns-in-OfBytes-clause-goes
returns-in-OfBytes-clause-goes c =
    let m = c.args.memory.now in
    let p = c.args.process.now in
    λ limit. goes_same m c.cvtac.new.memory p c.cvtac.new.process c.cvtac.result _ _
    (ap (on_texts limit c.args.code.now.object (view_world m) (view_process p) c.args.inst) c.in-OfBytes.is) (c.cvtac.ensures.goes c.args.code.now.object)

pub returns-in-OfBytes-clause-left : goal.returns-in-OfBytes-clause-left
returns-in-OfBytes-clause-left c =
    left_same c.args.memory.now c.cvtac.new.memory c.args.process.now c.cvtac.new.process c.cvtac.result c.cvtac.ensures.kept
