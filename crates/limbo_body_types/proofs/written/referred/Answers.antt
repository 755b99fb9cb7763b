use Rattle.std.proofs.Common.{true, refl, sym, subst}
use Rattle.limbo_tree.specs.View.{view_qual}
use Rattle.limbo_types.proofs.View.{view_ty-RefAdt, view_ty-RefPick}
use Rattle.limbo_context.specs.View.{view_context, view_body}
use Rattle.limbo_body_types.specs.declared.found.Found.{Found}
use Rattle.limbo_body_types.specs.Means as means
use Rattle.limbo_body_types.specs.Found.{IsFound}
use Rattle.limbo_body_types.proofs.Composing.{means_as}
use Rattle.limbo_body_types.proofs.Failing.{means_nothing, no_adt, means_adt}
use Rattle.limbo_body_types.proofs.written.referred.Goals as goal

pub returns-in-Lacking-clause-refused : goal.returns-in-Lacking-clause-refused
returns-in-Lacking-clause-refused c =
    (refl, subst (λ (z : Found). IsFound (view_context c.args.context.now) (view_body c.args.body.now) (view_qual c.args.name.now) z) c.in-Lacking.is c.in_ok-find.ensures)

pub returns-in-Nothing-clause-refused : goal.returns-in-Nothing-clause-refused
returns-in-Nothing-clause-refused c = (
  refl,
  means_nothing (view_context c.args.context.now) (view_body c.args.body.now) (view_qual c.args.name.now) true
      (subst (λ (z : Found). IsFound (view_context c.args.context.now) (view_body c.args.body.now) (view_qual c.args.name.now) z) c.in-Nothing.is c.in_ok-find.ensures),
)

pub returns-in-Variant-clause-means : goal.returns-in-Variant-clause-means
returns-in-Variant-clause-means c =
    means_as (view_context c.args.context.now) (view_body c.args.body.now) _ _ _ _ refl (view_ty-RefPick c.in-Variant.adt c.in-Variant.variant)
    (means.ref_variant (view_qual c.args.name.now) c.in-Variant.adt c.in-Variant.variant
    (subst (λ (z : Found). IsFound (view_context c.args.context.now) (view_body c.args.body.now) (view_qual c.args.name.now) z) c.in-Variant.is c.in_ok-find.ensures))

pub returns-in-Some-clause-means : goal.returns-in-Some-clause-means
returns-in-Some-clause-means c =
    means_as (view_context c.args.context.now) (view_body c.args.body.now) _ _ _ _ refl (view_ty-RefAdt c.in-Some.adt)
    (means.ref_adt (view_qual c.args.name.now) c.in-Named.meaning c.in-Some.adt
    (subst (λ (z : Found). IsFound (view_context c.args.context.now) (view_body c.args.body.now) (view_qual c.args.name.now) z) c.in-Named.is c.in_ok-find.ensures)
    (means_adt (view_context c.args.context.now) c.in-Named.meaning c.in-Some.adt (sym c.in-Some.ensures)))

pub returns-in-None-clause-refused : goal.returns-in-None-clause-refused
returns-in-None-clause-refused c = (
  refl,
  no_adt (view_context c.args.context.now) (view_body c.args.body.now) (view_qual c.args.name.now) c.in-Named.meaning
      (subst (λ (z : Found). IsFound (view_context c.args.context.now) (view_body c.args.body.now) (view_qual c.args.name.now) z) c.in-Named.is c.in_ok-find.ensures)
      (sym c.in-None.ensures),
)
