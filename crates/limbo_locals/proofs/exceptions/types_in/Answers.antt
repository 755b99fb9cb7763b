use Rattle.std.proofs.Common.{List, sym, subst, map, take, ◌+◌}
use Rattle.limbo_tree.specs.View as source
use Rattle.limbo_tree.specs.Types as written
use Rattle.limbo_types.specs.declared.ty.Ty as code_ty
use Rattle.limbo_types.specs.View.{view_tys}
use Rattle.limbo_context.specs.View.{view_context, view_body}
use Rattle.limbo_body_types.specs.Means as means
use Rattle.limbo_body_types.specs.Means.{AllMean}
use Rattle.limbo_body_types.proofs.Composing.{mean_more}
use Rattle.limbo_locals.proofs.Parts.{parts_mean, part_fails}
use Rattle.limbo_locals.proofs.exceptions.types_in.Goals as goal

pub loop-part-init : goal.loop-part-init
loop-part-init c =
    subst
    (λ (us : List code_ty.Ty). AllMean (view_context c.args.context.now) (view_body c.args.body.now) written.NoTys (view_tys us))
    (sym c.new-types.ensures.items) means.no_more

pub returns-in-Err-clause-refused : goal.returns-in-Err-clause-refused
returns-in-Err-clause-refused c =
    part_fails (view_context c.args.context.now) (view_body c.args.body.now) c.args.parts.now c.loop-part.part-index c.part-item.result
    c.in-Err.fault c.told.result.cause c.loop-part-test.true c.part-item.is c.in-Err.ensures.refused c.told.ensures

pub loop-part-preserved : goal.loop-part-preserved
loop-part-preserved c =
    subst
    (λ (us : List code_ty.Ty). AllMean (view_context c.args.context.now) (view_body c.args.body.now) (source.tys_of (map source.view_type
    (take (c.loop-part.part-index + 1) c.args.parts.now))) (view_tys us)) (sym c.in_ok-push-in-Ok.ensures.items)
    (mean_more (view_context c.args.context.now) (view_body c.args.body.now) c.args.parts.now c.loop-part.part-index c.part-item.result
    c.loop-part.types.items c.in-Ok.t c.loop-part-test.true c.part-item.is c.loop-part.invariant c.in-Ok.ensures.means)

pub returns-clause-means : goal.returns-clause-means
returns-clause-means c =
    parts_mean (view_context c.args.context.now) (view_body c.args.body.now) c.args.parts.now c.loop-part.part-index
    c.loop-part.types.items c.loop-part-test.false c.loop-part.invariant
