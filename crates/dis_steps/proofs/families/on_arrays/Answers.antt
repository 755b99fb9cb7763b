use Rattle.std.proofs.Common.{ap}
use Rattle.dis_places.specs.View.{view_process, view_world}
use Rattle.dis_results.proofs.Onward.{goes_same}
use Rattle.dis_steps.specs.Forms.{on_arrays}
use Rattle.dis_steps.proofs.Left.{left_same, left_untouched}
use Rattle.dis_steps.proofs.families.on_arrays.Goals as goal

pub returns-in-Record-clause-goes : goal.returns-in-Record-clause-goes
returns-in-Record-clause-goes c =
    let m = c.args.memory.now in
    let p = c.args.process.now in
    λ limit. goes_same m c.new.new.memory p c.new.new.process c.new.result _ _
    (ap (on_arrays limit c.args.code.now.object (view_world m) (view_process p) c.args.inst) c.in-Record.is) c.new.ensures.goes

pub returns-in-Record-clause-left : goal.returns-in-Record-clause-left
returns-in-Record-clause-left c =
    left_same c.args.memory.now c.new.new.memory c.args.process.now c.new.new.process c.new.result c.new.ensures.kept

pub returns-in-Array-clause-goes : goal.returns-in-Array-clause-goes
returns-in-Array-clause-goes c =
    let m = c.args.memory.now in
    let p = c.args.process.now in
    λ limit. goes_same m c.newa.new.memory p c.newa.new.process c.newa.result _ _
    (ap (on_arrays limit c.args.code.now.object (view_world m) (view_process p) c.args.inst) c.in-Array.is) c.newa.ensures.goes

pub returns-in-Array-clause-left : goal.returns-in-Array-clause-left
returns-in-Array-clause-left c =
    left_same c.args.memory.now c.newa.new.memory c.args.process.now c.newa.new.process c.newa.result c.newa.ensures.kept

pub returns-in-Index-clause-goes : goal.returns-in-Index-clause-goes
returns-in-Index-clause-goes c =
    let m = c.args.memory.now in
    let p = c.args.process.now in
    λ limit. goes_same m c.indx.new.memory p c.indx.new.process c.indx.result _ _
    (ap (on_arrays limit c.args.code.now.object (view_world m) (view_process p) c.args.inst) c.in-Index.is) (c.indx.ensures.goes c.args.code.now.object)

pub returns-in-Index-clause-left : goal.returns-in-Index-clause-left
returns-in-Index-clause-left c =
    left_same c.args.memory.now c.indx.new.memory c.args.process.now c.indx.new.process c.indx.result c.indx.ensures.kept

pub returns-in-IndexOf-clause-goes : goal.returns-in-IndexOf-clause-goes
returns-in-IndexOf-clause-goes c =
    let m = c.args.memory.now in
    let p = c.args.process.now in
    λ limit. goes_same m c.index_of_size.new.memory p c.index_of_size.new.process c.index_of_size.result _ _
    (ap (on_arrays limit c.args.code.now.object (view_world m) (view_process p) c.args.inst) c.in-IndexOf.is) (c.index_of_size.ensures.goes c.args.code.now.object)

pub returns-in-IndexOf-clause-left : goal.returns-in-IndexOf-clause-left
returns-in-IndexOf-clause-left c =
    left_same c.args.memory.now c.index_of_size.new.memory c.args.process.now c.index_of_size.new.process c.index_of_size.result c.index_of_size.ensures.kept

pub returns-in-Length-clause-goes : goal.returns-in-Length-clause-goes
returns-in-Length-clause-goes c =
    let m = c.args.memory.now in
    let p = c.args.process.now in
    λ limit. goes_same m c.lena.new.memory p c.lena.new.process c.lena.result _ _
    (ap (on_arrays limit c.args.code.now.object (view_world m) (view_process p) c.args.inst) c.in-Length.is) (c.lena.ensures.goes c.args.code.now.object)

pub returns-in-Length-clause-left : goal.returns-in-Length-clause-left
returns-in-Length-clause-left c =
    left_same c.args.memory.now c.lena.new.memory c.args.process.now c.lena.new.process c.lena.result c.lena.ensures.kept

pub returns-in-Part-clause-goes : goal.returns-in-Part-clause-goes
returns-in-Part-clause-goes c =
    let m = c.args.memory.now in
    let p = c.args.process.now in
    λ limit. goes_same m c.slicea.new.memory p c.slicea.new.process c.slicea.result _ _
    (ap (on_arrays limit c.args.code.now.object (view_world m) (view_process p) c.args.inst) c.in-Part.is) (c.slicea.ensures.goes c.args.code.now.object)

pub returns-in-Part-clause-left : goal.returns-in-Part-clause-left
returns-in-Part-clause-left c =
    left_same c.args.memory.now c.slicea.new.memory c.args.process.now c.slicea.new.process c.slicea.result c.slicea.ensures.kept

pub returns-in-Copy-clause-goes : goal.returns-in-Copy-clause-goes
returns-in-Copy-clause-goes c =
    let m = c.args.memory.now in
    let p = c.args.process.now in
    λ limit. goes_same m c.slicela.new.memory p c.slicela.new.process c.slicela.result _ _
    (ap (on_arrays limit c.args.code.now.object (view_world m) (view_process p) c.args.inst) c.in-Copy.is)
    (c.slicela.ensures.goes c.args.code.now.object)

pub returns-in-Copy-clause-left : goal.returns-in-Copy-clause-left
returns-in-Copy-clause-left c =
    left_untouched c.args.memory.now c.slicela.new.memory c.args.process.now c.slicela.new.process c.slicela.result c.slicela.ensures.kept
