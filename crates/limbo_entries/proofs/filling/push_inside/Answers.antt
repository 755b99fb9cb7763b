use Rattle.std.proofs.Common.{◌≡◌, Some, ap}
use Rattle.std.specs.Prelude.{slice_get}
use Rattle.limbo_declarations.specs.View.{view_row}
use Rattle.limbo_entries.proofs.Lists.{read_at}
use Rattle.limbo_entries.proofs.Indexed.{grown, again_inside}
use Rattle.limbo_entries.proofs.filling.push_inside.Goals as goal

pub returns-in-Err-clause-again : goal.returns-in-Err-clause-again
returns-in-Err-clause-again c =
    λ r e top outermost g.
    let es = c.args.entries.now.items in
    let h : slice_get es c.args.number ≡ Some c.index.result.now = read_at es c.args.number c.index.result.now c.requires c.index.ensures in
    again_inside top es outermost c.args.scopes.now.items c.args.number c.args.number c.index.result.now _
    (view_row r) g h c.in_ok-rows.ensures
    (c.in-Err.ensures.again r e)

pub returns-in_ok-push_scope-in-Ok-clause-grown : goal.returns-in_ok-push_scope-in-Ok-clause-grown
returns-in_ok-push_scope-in-Ok-clause-grown c =
    λ top outermost g.
    let es = c.args.entries.now.items in
    let h : slice_get es c.args.number ≡ Some c.index.result.now = read_at es c.args.number c.index.result.now c.requires c.index.ensures in
    rw (c.in-Ok.ensures.entries, c.in_ok-push_scope-in-Ok.ensures)
    (grown top es outermost c.args.scopes.now.items c.args.number c.index.result.now c.in-Ok.scope c.in_ok-rows.rows.items g h
    c.in_ok-rows.ensures c.in-Ok.ensures.first (ap (λ v. v.items) c.in-Ok.ensures.rows))
