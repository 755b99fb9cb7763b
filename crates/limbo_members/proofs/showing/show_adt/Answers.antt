use Rattle.limbo_members.proofs.Shown.{set_changed}
use Rattle.limbo_members.proofs.showing.show_adt.Goals as goal

pub returns-in-Ok-clause-shown : goal.returns-in-Ok-clause-shown
returns-in-Ok-clause-shown c =
    set_changed c.args.row _ c.args.rows.now.items c.index_mut.result.now c.declare.new.self c.requires.there c.index_mut.ensures.value
    c.in-Ok.ensures.declared
