use Rattle.std.proofs.Common.{ap}
use Rattle.dis_places.specs.View.{view_process, view_world}
use Rattle.dis_steps.specs.Forms.{obeyed}
use Rattle.dis_steps.proofs.Left.{left_same}
use Rattle.dis_steps.proofs.Obeys.{comes_by, comes_same, left_by, stays_by}
use Rattle.dis_steps.proofs.obeying.obey_form.Goals as goal

pub returns-in-Number-clause-comes : goal.returns-in-Number-clause-comes
returns-in-Number-clause-comes c =
    let m = c.args.memory.now in
    let p = c.args.process.now in
    comes_by m c.obey_row.new.memory p c.obey_row.new.process c.obey_row.result c.went.result c.went.ensures.went _ _
    (ap (obeyed c.args.limit c.args.code.now.object (view_world m) (view_process p) c.args.inst) c.in-Number.is) (c.obey_row.ensures.goes)

pub returns-in-Number-clause-left : goal.returns-in-Number-clause-left
returns-in-Number-clause-left c =
    let m = c.args.memory.now in
    let p = c.args.process.now in
    left_by m c.obey_row.new.memory p c.obey_row.new.process c.obey_row.result c.went.result c.went.ensures.went (left_same c.args.memory.now c.obey_row.new.memory c.args.process.now c.obey_row.new.process c.obey_row.result c.obey_row.ensures.kept)

pub returns-in-Number-clause-stays : goal.returns-in-Number-clause-stays
returns-in-Number-clause-stays c =
    stays_by c.args.memory.now c.obey_row.new.memory c.args.process.now c.obey_row.new.process c.obey_row.result c.went.result c.went.ensures.went

pub returns-in-Compare-clause-comes : goal.returns-in-Compare-clause-comes
returns-in-Compare-clause-comes c =
    let m = c.args.memory.now in
    let p = c.args.process.now in
    comes_by m c.compares.new.memory p c.compares.new.process c.compares.result c.went-in-Compare.result c.went-in-Compare.ensures.went _ _
    (ap (obeyed c.args.limit c.args.code.now.object (view_world m) (view_process p) c.args.inst) c.in-Compare.is) (c.compares.ensures.goes)

pub returns-in-Compare-clause-left : goal.returns-in-Compare-clause-left
returns-in-Compare-clause-left c =
    let m = c.args.memory.now in
    let p = c.args.process.now in
    left_by m c.compares.new.memory p c.compares.new.process c.compares.result c.went-in-Compare.result c.went-in-Compare.ensures.went (left_same c.args.memory.now c.compares.new.memory c.args.process.now c.compares.new.process c.compares.result c.compares.ensures.kept)

pub returns-in-Compare-clause-stays : goal.returns-in-Compare-clause-stays
returns-in-Compare-clause-stays c =
    stays_by c.args.memory.now c.compares.new.memory c.args.process.now c.compares.new.process c.compares.result c.went-in-Compare.result c.went-in-Compare.ensures.went

pub returns-in-Moves-clause-comes : goal.returns-in-Moves-clause-comes
returns-in-Moves-clause-comes c =
    let m = c.args.memory.now in
    let p = c.args.process.now in
    comes_by m c.moves.new.memory p c.moves.new.process c.moves.result c.went-in-Moves.result c.went-in-Moves.ensures.went _ _
    (ap (obeyed c.args.limit c.args.code.now.object (view_world m) (view_process p) c.args.inst) c.in-Moves.is) (c.moves.ensures.goes c.args.limit)

pub returns-in-Moves-clause-left : goal.returns-in-Moves-clause-left
returns-in-Moves-clause-left c =
    let m = c.args.memory.now in
    let p = c.args.process.now in
    left_by m c.moves.new.memory p c.moves.new.process c.moves.result c.went-in-Moves.result c.went-in-Moves.ensures.went (c.moves.ensures.left)

pub returns-in-Moves-clause-stays : goal.returns-in-Moves-clause-stays
returns-in-Moves-clause-stays c =
    stays_by c.args.memory.now c.moves.new.memory c.args.process.now c.moves.new.process c.moves.result c.went-in-Moves.result c.went-in-Moves.ensures.went

pub returns-in-Arrays-clause-comes : goal.returns-in-Arrays-clause-comes
returns-in-Arrays-clause-comes c =
    let m = c.args.memory.now in
    let p = c.args.process.now in
    comes_by m c.on_arrays.new.memory p c.on_arrays.new.process c.on_arrays.result c.went-in-Arrays.result c.went-in-Arrays.ensures.went _ _
    (ap (obeyed c.args.limit c.args.code.now.object (view_world m) (view_process p) c.args.inst) c.in-Arrays.is) (c.on_arrays.ensures.goes c.args.limit)

pub returns-in-Arrays-clause-left : goal.returns-in-Arrays-clause-left
returns-in-Arrays-clause-left c =
    let m = c.args.memory.now in
    let p = c.args.process.now in
    left_by m c.on_arrays.new.memory p c.on_arrays.new.process c.on_arrays.result c.went-in-Arrays.result c.went-in-Arrays.ensures.went (c.on_arrays.ensures.left)

pub returns-in-Arrays-clause-stays : goal.returns-in-Arrays-clause-stays
returns-in-Arrays-clause-stays c =
    stays_by c.args.memory.now c.on_arrays.new.memory c.args.process.now c.on_arrays.new.process c.on_arrays.result c.went-in-Arrays.result c.went-in-Arrays.ensures.went

pub returns-in-Texts-clause-comes : goal.returns-in-Texts-clause-comes
returns-in-Texts-clause-comes c =
    let m = c.args.memory.now in
    let p = c.args.process.now in
    comes_by m c.on_texts.new.memory p c.on_texts.new.process c.on_texts.result c.went-in-Texts.result c.went-in-Texts.ensures.went _ _
    (ap (obeyed c.args.limit c.args.code.now.object (view_world m) (view_process p) c.args.inst) c.in-Texts.is) (c.on_texts.ensures.goes c.args.limit)

pub returns-in-Texts-clause-left : goal.returns-in-Texts-clause-left
returns-in-Texts-clause-left c =
    let m = c.args.memory.now in
    let p = c.args.process.now in
    left_by m c.on_texts.new.memory p c.on_texts.new.process c.on_texts.result c.went-in-Texts.result c.went-in-Texts.ensures.went (c.on_texts.ensures.left)

pub returns-in-Texts-clause-stays : goal.returns-in-Texts-clause-stays
returns-in-Texts-clause-stays c =
    stays_by c.args.memory.now c.on_texts.new.memory c.args.process.now c.on_texts.new.process c.on_texts.result c.went-in-Texts.result c.went-in-Texts.ensures.went

pub returns-in-Lists-clause-comes : goal.returns-in-Lists-clause-comes
returns-in-Lists-clause-comes c =
    let m = c.args.memory.now in
    let p = c.args.process.now in
    comes_by m c.on_lists.new.memory p c.on_lists.new.process c.on_lists.result c.went-in-Lists.result c.went-in-Lists.ensures.went _ _
    (ap (obeyed c.args.limit c.args.code.now.object (view_world m) (view_process p) c.args.inst) c.in-Lists.is) (c.on_lists.ensures.goes c.args.limit)

pub returns-in-Lists-clause-left : goal.returns-in-Lists-clause-left
returns-in-Lists-clause-left c =
    let m = c.args.memory.now in
    let p = c.args.process.now in
    left_by m c.on_lists.new.memory p c.on_lists.new.process c.on_lists.result c.went-in-Lists.result c.went-in-Lists.ensures.went (c.on_lists.ensures.left)

pub returns-in-Lists-clause-stays : goal.returns-in-Lists-clause-stays
returns-in-Lists-clause-stays c =
    stays_by c.args.memory.now c.on_lists.new.memory c.args.process.now c.on_lists.new.process c.on_lists.result c.went-in-Lists.result c.went-in-Lists.ensures.went

pub returns-in-Channels-clause-comes : goal.returns-in-Channels-clause-comes
returns-in-Channels-clause-comes c =
    let m = c.args.memory.now in
    let p = c.args.process.now in
    comes_by m c.on_channels.new.memory p c.on_channels.new.process c.on_channels.result c.went-in-Channels.result c.went-in-Channels.ensures.went _ _
    (ap (obeyed c.args.limit c.args.code.now.object (view_world m) (view_process p) c.args.inst) c.in-Channels.is) (c.on_channels.ensures.goes c.args.limit)

pub returns-in-Channels-clause-left : goal.returns-in-Channels-clause-left
returns-in-Channels-clause-left c =
    let m = c.args.memory.now in
    let p = c.args.process.now in
    left_by m c.on_channels.new.memory p c.on_channels.new.process c.on_channels.result c.went-in-Channels.result c.went-in-Channels.ensures.went (c.on_channels.ensures.left)

pub returns-in-Channels-clause-stays : goal.returns-in-Channels-clause-stays
returns-in-Channels-clause-stays c =
    stays_by c.args.memory.now c.on_channels.new.memory c.args.process.now c.on_channels.new.process c.on_channels.result c.went-in-Channels.result c.went-in-Channels.ensures.went

pub returns-in-Controls-clause-comes : goal.returns-in-Controls-clause-comes
returns-in-Controls-clause-comes c =
    let m = c.args.memory.now in
    let p = c.args.process.now in
    comes_same m c.controls.new.memory p c.controls.new.process c.controls.result _ _
    (ap (obeyed c.args.limit c.args.code.now.object (view_world m) (view_process p) c.args.inst) c.in-Controls.is) c.controls.ensures.comes
