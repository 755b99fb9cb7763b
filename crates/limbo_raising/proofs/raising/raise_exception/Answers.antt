use Rattle.std.proofs.Common.{sym, subst, map}
use Rattle.limbo_tree.specs.View as source
use Rattle.limbo_types.specs.View.{view_ty}
use Rattle.limbo_causes.specs.Causes.{Cause}
use Rattle.limbo_causes.proofs.Telling.{fails_weaker}
use Rattle.limbo_context.specs.View.{view_context, view_body}
use Rattle.limbo_stmt_values.proofs.Told.{if_ok, if_err}
use Rattle.limbo_raising.specs.Exceptions.{FailsException, with_values, lacks, by_values}
use Rattle.limbo_raising.proofs.raising.raise_exception.Goals as goal

pub returns-in-Some-clause-raises : goal.returns-in-Some-clause-raises
returns-in-Some-clause-raises c =
    if_ok c.raise_with.result _ _ (λ s h. with_values _ _ (sym c.in-Some.ensures) h) c.raise_with.ensures.raises

pub returns-in-Some-clause-refused : goal.returns-in-Some-clause-refused
returns-in-Some-clause-refused c =
    if_err c.raise_with.result _ _ (λ f g. fails_weaker f.cause _ _ (λ k i. by_values _ _ k (sym c.in-Some.ensures) i) g)
    c.raise_with.ensures.refused

pub returns-in-None-clause-refused : goal.returns-in-None-clause-refused
returns-in-None-clause-refused c =
    if_err c.raise_alone.result _ _
    (λ f g.
    fails_weaker f.cause _ _
    (λ k i.
    subst
    (λ (j : Cause).
    FailsException (view_context c.args.context.now) (view_body c.args.body.now) (source.view_expr c.args.e.now)
    (map view_ty c.args.asked.now) j) (sym i.0) (lacks (sym c.in-None.ensures) i.1)) g)
    c.raise_alone.ensures.refused
