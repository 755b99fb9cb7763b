use Rattle.std.proofs.Common.{ap}
use Rattle.limbo_types.specs.View.{view_ty}
use Rattle.limbo_typed.specs.Sound.{type_of}
use Rattle.limbo_typed.specs.View.{view_expr}
use Rattle.limbo_refusals.specs.Refusals.{Clash}
use Rattle.limbo_stmt_values.proofs.Told.{told_alone, type_is}
use Rattle.limbo_stmt_values.proofs.endings.clash.Goals as goal

pub returns : goal.returns
returns c =
    told_alone c.clash_of.result c.refused.result.cause (Clash (view_ty c.args.x.now.ty) (view_ty c.args.other.now))
    (Clash (type_of (view_expr c.args.x.now)) (view_ty c.args.other.now)) c.refused.ensures c.clash_of.ensures
    (ap (λ t. Clash t (view_ty c.args.other.now)) (type_is c.args.x.now))
