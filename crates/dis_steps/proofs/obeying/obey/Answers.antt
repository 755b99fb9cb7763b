use Rattle.std.proofs.Common.{ap, sym, ◌∙◌}
use Rattle.dis_places.specs.View.{view_process, view_world}
use Rattle.dis_steps.specs.Forms.{obeyed}
use Rattle.dis_steps.proofs.Tabled.{forms_obey}
use Rattle.dis_steps.proofs.Obeys.{comes_same}
use Rattle.dis_steps.proofs.obeying.obey.Goals as goal

pub returns-clause-comes : goal.returns-clause-comes
returns-clause-comes c =
    let m = c.args.memory.now in
    let p = c.args.process.now in
    let o = c.args.code.now.object in
    comes_same m c.obey_form.new.memory p c.obey_form.new.process c.obey_form.result _ _
    (forms_obey c.args.limit o (view_world m) (view_process p) c.args.inst c.args.inst.op
    ∙ ap (obeyed c.args.limit o (view_world m) (view_process p) c.args.inst) (sym c.form_of-form.ensures))
    c.obey_form.ensures.comes
