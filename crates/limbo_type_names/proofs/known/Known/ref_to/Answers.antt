use Rattle.std.proofs.Common.{sym, subst}
use Rattle.limbo_types.specs.Types.{Ty}
use Rattle.limbo_types.proofs.View.{view_ty-RefPick, view_ty-RefAdt}
use Rattle.limbo_type_names.specs.Means.{RefersTo, of_adt, of_variant}
use Rattle.limbo_type_names.specs.Working.{entries_in}
use Rattle.limbo_type_names.proofs.Knowing.{no_ref}
use Rattle.limbo_type_names.proofs.known.Known.ref_to.Goals as goal

pub returns-in-Some-clause-some : goal.returns-in-Some-clause-some
returns-in-Some-clause-some c =
    let n = c.args.self.now.naming.now in
    subst (λ (z : Ty). RefersTo (entries_in n) n.implemented c.args.number z) (sym (view_ty-RefPick c.in-Some.adt c.in-Some.variant))
    (of_variant c.args.number c.in-Some.adt c.in-Some.variant c.in-Some.ensures.some)

pub returns-in-Some-adt_at-clause-some : goal.returns-in-Some-adt_at-clause-some
returns-in-Some-adt_at-clause-some c =
    let n = c.args.self.now.naming.now in
    subst (λ (z : Ty). RefersTo (entries_in n) n.implemented c.args.number z) (sym (view_ty-RefAdt c.in-Some-adt_at.adt))
    (of_adt c.args.number c.in-Some-adt_at.adt c.in-Some-adt_at.ensures.some)

pub returns-in-None-adt_at-clause-none : goal.returns-in-None-adt_at-clause-none
returns-in-None-adt_at-clause-none c =
    let n = c.args.self.now.naming.now in
    no_ref (entries_in n) n.implemented c.args.number c.in-None.ensures.none c.in-None-adt_at.ensures.none
