use Rattle.std.proofs.Common.{ap}
use Rattle.dis_places.specs.View.{view_process, view_world}
use Rattle.dis_steps.specs.Forms.{controls}
use Rattle.std.proofs.lemmas.Result.{on_err_weaker}
use Rattle.dis_steps.proofs.Left.{left_same, same_left}
use Rattle.dis_steps.proofs.Obeys.{comes_by, comes_same, left_by}
use Rattle.dis_steps.proofs.obeying.controls.Goals as goal
use Rattle.std.specs.Prelude.{Ok}

pub returns-in-Jump-clause-comes : goal.returns-in-Jump-clause-comes
returns-in-Jump-clause-comes c =
    let m = c.args.memory.now in
    let p = c.args.process.now in
    comes_by m m p c.jmp.new.process c.jmp.result c.went.result c.went.ensures.went _ _
    (ap (controls c.args.limit c.args.code.now.object (view_world m) (view_process p) c.args.inst) c.in-Jump.is) (c.jmp.ensures.goes c.args.limit)

pub returns-in-Frame-clause-comes : goal.returns-in-Frame-clause-comes
returns-in-Frame-clause-comes c =
    let m = c.args.memory.now in
    let p = c.args.process.now in
    comes_by m c.make_frame.new.memory p c.make_frame.new.process c.make_frame.result c.went-in-Frame.result c.went-in-Frame.ensures.went _ _
    (ap (controls c.args.limit c.args.code.now.object (view_world m) (view_process p) c.args.inst) c.in-Frame.is)
    (c.make_frame.ensures.goes c.args.limit)

pub returns-in-Return-clause-comes : goal.returns-in-Return-clause-comes
returns-in-Return-clause-comes c =
    let m = c.args.memory.now in
    let p = c.args.process.now in
    comes_same m c.give_back.new.memory p c.give_back.new.process (Ok c.give_back.result) _ _
    (ap (controls c.args.limit c.args.code.now.object (view_world m) (view_process p) c.args.inst) c.in-Return.is)
    (c.give_back.ensures.comes c.args.limit c.args.code.now.object c.args.inst)

pub returns-in-Load-clause-comes : goal.returns-in-Load-clause-comes
returns-in-Load-clause-comes c =
    let m = c.args.memory.now in
    let p = c.args.process.now in
    comes_by m c.load.new.memory p c.load.new.process c.load.result c.went-in-Load.result c.went-in-Load.ensures.went _ _
    (ap (controls c.args.limit c.args.code.now.object (view_world m) (view_process p) c.args.inst) c.in-Load.is)
    (c.load.ensures.goes c.args.limit)

pub returns-in-Load-clause-left : goal.returns-in-Load-clause-left
returns-in-Load-clause-left c =
    let m = c.args.memory.now in
    let p = c.args.process.now in
    left_by m c.load.new.memory p c.load.new.process c.load.result c.went-in-Load.result c.went-in-Load.ensures.went
    (left_same m c.load.new.memory p c.load.new.process c.load.result c.load.ensures.kept)

pub returns-in-CallModule-clause-comes : goal.returns-in-CallModule-clause-comes
returns-in-CallModule-clause-comes c =
    let m = c.args.memory.now in
    let p = c.args.process.now in
    comes_same m c.mcall.new.memory p c.mcall.new.process c.mcall.result _ _
    (ap (controls c.args.limit c.args.code.now.object (view_world m) (view_process p) c.args.inst) c.in-CallModule.is)
    (c.mcall.ensures.comes c.args.limit c.args.code.now.object)

pub returns-in-CallModule-clause-left : goal.returns-in-CallModule-clause-left
returns-in-CallModule-clause-left c =
    on_err_weaker c.mcall.result (same_left c.args.memory.now c.mcall.new.memory c.args.process.now c.mcall.new.process) c.mcall.ensures.kept
