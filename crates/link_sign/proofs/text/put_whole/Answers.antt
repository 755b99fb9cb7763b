use Rattle.std.proofs.Common.{sym}
use Rattle.std.proofs.lemmas.Result.{on_ok_weaker}
use Rattle.limbo_layout.specs.View.{view_defs}
use Rattle.link_sign.proofs.Steps.{step_again, step_open}
use Rattle.link_sign.proofs.text.put_whole.Goals as goal

pub returns-in-Some : goal.returns-in-Some
returns-in-Some c modules =
    on_ok_weaker c.put_again.result
    (λ x. step_again (view_defs c.args.defs.now) modules c.args.adt c.in-Some.number c.args.opened.now c.args.draft.now c.put_again.new.draft (sym c.in-Some.ensures) x)
    c.put_again.ensures

pub returns-in_ok-open-in-None : goal.returns-in_ok-open-in-None
returns-in_ok-open-in-None c modules =
    on_ok_weaker c.put_adt.result
    (λ x. step_open (view_defs c.args.defs.now) modules c.args.adt c.args.opened.now c.open.new.self c.args.draft.now c.put_adt.new.draft (sym c.in-None.ensures) c.in_ok-open-in-None.ensures x)
    (c.put_adt.ensures modules)
