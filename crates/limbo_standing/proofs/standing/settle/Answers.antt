use Rattle.std.proofs.lemmas.Result.{IfOk-weaker}
use Rattle.limbo_types.specs.View.{view_ty}
use Rattle.limbo_typed.specs.View.{view_expr}
use Rattle.limbo_standing.specs.Settling.{Tells, settled}
use Rattle.limbo_standing.proofs.Settled.{answer_settles, answer_refuses}
use Rattle.limbo_standing.proofs.standing.settle.Goals as goal

pub returns-clause-settled : goal.returns-clause-settled
returns-clause-settled c =
    IfOk-weaker c.settle_value.result (λ b. Tells (settled (view_ty c.args.asked.now) (view_expr c.args.value.now)) b (view_expr c.settle_value.new.value)) _
    (λ b h. answer_settles (view_ty c.args.asked.now) (view_expr c.args.value.now) _ b h) c.settle_value.ensures

pub returns-clause-refused : goal.returns-clause-refused
returns-clause-refused c =
    IfOk-weaker c.settle_value.result (λ b. Tells (settled (view_ty c.args.asked.now) (view_expr c.args.value.now)) b (view_expr c.settle_value.new.value)) _
    (λ b h. answer_refuses (view_ty c.args.asked.now) (view_expr c.args.value.now) _ b h) c.settle_value.ensures
