use Rattle.std.proofs.Common.{refl, sym, subst, ap, Some, ◌∙◌}
use Rattle.limbo_tree.specs.View.{view_qual}
use Rattle.limbo_context.specs.View.{view_context, view_body}
use Rattle.limbo_body_types.specs.declared.found.Found.{Found}
use Rattle.limbo_body_types.specs.Means as means
use Rattle.limbo_body_types.specs.Found.{IsFound}
use Rattle.limbo_body_types.proofs.Failing.{no_type_alone}
use Rattle.limbo_body_types.proofs.written.named.Goals as goal

pub returns-in-Lacking-clause-refused : goal.returns-in-Lacking-clause-refused
returns-in-Lacking-clause-refused c =
    (refl, subst (λ (z : Found). IsFound (view_context c.args.context.now) (view_body c.args.body.now) (view_qual c.args.name.now) z) c.in-Lacking.is c.in_ok-find.ensures)

pub returns-in_ok-to_type-in-Some-clause-means : goal.returns-in_ok-to_type-in-Some-clause-means
returns-in_ok-to_type-in-Some-clause-means c =
    means.named_type (view_qual c.args.name.now) c.in-Named.meaning _
    (subst (λ (z : Found). IsFound (view_context c.args.context.now) (view_body c.args.body.now) (view_qual c.args.name.now) z) c.in-Named.is c.in_ok-find.ensures)
    (sym c.in-Some.ensures ∙ ap Some (sym c.in_ok-to_type-in-Some.ensures))

pub returns-in_default-clause-refused : goal.returns-in_default-clause-refused
returns-in_default-clause-refused c = (
  refl,
  no_type_alone (view_context c.args.context.now) (view_body c.args.body.now) (view_qual c.args.name.now) c.in_ok-find.field-0 c.in_ok-find.ensures
      c.in_default.not-Lacking c.in_default.not-Named,
)
