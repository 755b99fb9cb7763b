use Rattle.limbo_causes.proofs.Telling.{fails_weaker, refused_by}
use Rattle.std.proofs.Common.{sym, subst}
use Rattle.limbo_tree.specs.View as source
use Rattle.std.proofs.Common.{map}
use Rattle.limbo_types.specs.Types.{Ty}
use Rattle.limbo_types.specs.View.{view_ty}
use Rattle.limbo_types.proofs.View.{view_ty-Nothing}
use Rattle.limbo_typed.specs.View.{view_exprs}
use Rattle.limbo_arguments.specs.Failing.{FailsEach}
use Rattle.limbo_causes.specs.Causes.{Cause}
use Rattle.limbo_context.specs.View.{view_context, view_body}
use Rattle.limbo_raising.specs.Exceptions.{FailsWith, a_value, unfit}
use Rattle.limbo_raising.proofs.raising.raise_with.Goals as goal

pub returns-in-Err-settle_each-clause-refused : goal.returns-in-Err-settle_each-clause-refused
returns-in-Err-settle_each-clause-refused c =
    fails_weaker c.refused.result.cause _ _
    (λ k g.
    subst
    (λ (j : Cause).
    FailsWith (view_context c.args.context.now) (view_body c.args.body.now) (source.exprs_of (map source.view_expr c.args.args.now))
    (map view_ty c.args.asked.now) j) (sym g.1)
    (unfit (view_exprs c.in-Ok.xs.items) (view_body c.values.new.body) g.0 c.in-Ok.ensures.typed
    (subst (λ (t : Ty). FailsEach t (map view_ty c.args.asked.now) (view_exprs c.in-Ok.xs.items) g.0) view_ty-Nothing g.2)))
    (refused_by c.in-Err-settle_each.fault c.refused.result.cause _ c.refused.ensures c.in-Err-settle_each.ensures.refused)

pub returns-in-Err-clause-refused : goal.returns-in-Err-clause-refused
returns-in-Err-clause-refused c = fails_weaker c.in-Err.fault.cause _ _ (λ k g. a_value k g) c.in-Err.ensures.refused
