use Rattle.std.proofs.Common.{map, arith}
use Rattle.limbo_types.specs.View.{view_ty}
use Rattle.limbo_context.specs.View.{view_context}
use Rattle.limbo_permits.specs.Permits.{Permits, ForbidsType}
use Rattle.limbo_declared_types.specs.Asked.{ForbidsOne}
use Rattle.limbo_declared_types.proofs.Lists.{refuses_weaker, each_more, seen_among}
use Rattle.limbo_declared_types.proofs.asking.permit_each.Goals as goal

pub returns-in-Err-clause-refused : goal.returns-in-Err-clause-refused
returns-in-Err-clause-refused c =
    let k = view_context c.args.context.now in
    let t = c.of-item.result in
    refuses_weaker c.in-Err.fault (ForbidsType k (view_ty t)) (ForbidsOne k (map view_ty c.args.types.now))
    (λ r h. (view_ty t, seen_among view_ty c.args.types.now c.loop-of.of-index t (omega arith) c.of-item.is, h)) c.in-Err.ensures.refused

pub loop-of-preserved : goal.loop-of-preserved
loop-of-preserved c =
    each_more view_ty (λ t. Permits (view_context c.args.context.now) t) c.args.types.now c.loop-of.of-index c.of-item.result (omega arith)
    c.of-item.is c.loop-of.invariant c.in-Ok.ensures.permitted
