use Rattle.std.proofs.Common.{◌<◌, length, sym, ap, ◌∙◌, subst, refl}
use Rattle.std.proofs.lemmas.List.{take_all}
use Rattle.limbo_types.specs.View.{view_ty, view_tys}
use Rattle.limbo_types.proofs.View.{view_ty-Adt, view_ty-RefAdt}
use Rattle.limbo_layout.specs.Adts.{Names, AllName}
use Rattle.limbo_layout.specs.View.{view_defs}
use Rattle.link_sign_rows.proofs.Named.{from_test, defs_length, type_more}
use Rattle.link_sign_rows.proofs.naming.+naming.Goals as goal

pub names-returns-in-Adt : goal.names-returns-in-Adt
names-returns-in-Adt t c = λ h.
    let defs = c.args.defs.now in
    subst (λ u. Names (view_defs defs) c.args.modules u) (sym (ap view_ty c.in-Adt.is ∙ view_ty-Adt c.in-Adt.number))
    (subst (λ n. c.in-Adt.number < n) (sym (defs_length defs)) (from_test c.in-Adt.number (length defs) h))

pub names-returns-in-RefAdt : goal.names-returns-in-RefAdt
names-returns-in-RefAdt t c = λ h.
    let defs = c.args.defs.now in
    subst (λ u. Names (view_defs defs) c.args.modules u) (sym (ap view_ty c.in-RefAdt.is ∙ view_ty-RefAdt c.in-RefAdt.number))
    (subst (λ n. c.in-RefAdt.number < n) (sym (defs_length defs)) (from_test c.in-RefAdt.number (length defs) h))

pub all_name-loop-t-preserved : goal.all_name-loop-t-preserved
all_name-loop-t-preserved t c =
    type_more (view_defs c.args.defs.now) c.args.modules c.args.ts.now c.loop-t.t-index c.t-item.result c.loop-t-test.true c.t-item.is c.loop-t.invariant (c.if-not-names.ensures refl)

pub all_name-returns : goal.all_name-returns
all_name-returns t c = λ h.
    subst (λ z. AllName (view_defs c.args.defs.now) c.args.modules (view_tys z)) (take_all c.loop-t.t-index c.args.ts.now c.loop-t-test.false) c.loop-t.invariant
