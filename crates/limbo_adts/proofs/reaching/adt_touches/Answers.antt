use Rattle.std.proofs.Common.{sym, ap, ◌∙◌}
use Rattle.limbo_types.specs.View.{view_ty}
use Rattle.limbo_layout.specs.View.{view_defs}
use Rattle.limbo_adts.specs.Reading.{row_touches}
use Rattle.limbo_adts.proofs.Found.{row_at, row_past}
use Rattle.limbo_adts.proofs.reaching.adt_touches.Goals as goal

pub returns-in-Some : goal.returns-in-Some
returns-in-Some c =
    c.row_touches.ensures
    ∙ ap (λ ks. row_touches (view_defs c.args.defs.now) ks (view_ty c.args.u.now)) (c.deref.ensures.value ∙ sym (row_at c.args.closed.now c.args.number c.in-Some.row.now c.in-Some.ensures.lookup.3.0 c.in-Some.ensures.lookup.1))

pub returns-in-None : goal.returns-in-None
returns-in-None c = sym (ap (λ ks. row_touches (view_defs c.args.defs.now) ks (view_ty c.args.u.now)) (row_past c.args.closed.now c.args.number c.in-None.ensures.lookup.3))
