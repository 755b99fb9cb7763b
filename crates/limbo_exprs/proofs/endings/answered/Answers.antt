use Rattle.std.proofs.Common.{◌≢◌, refl, subst}
use Rattle.std.specs.Prelude.{IsTrue, ◌↔◌}
use Rattle.limbo_types.specs.Types.{Nothing}
use Rattle.limbo_typed.specs.Sound.{type_of}
use Rattle.limbo_typed.specs.View.{view_expr}
use Rattle.limbo_exprs.proofs.Tested.{nothing_else, untrue, nothing_fails}
use Rattle.limbo_exprs.proofs.endings.answered.Goals as goal

pub returns-else-has_answer-clause-refused : goal.returns-else-has_answer-clause-refused
returns-else-has_answer-clause-refused c =
    nothing_fails c.clash_of.result c.refused.result.cause _ c.refused.ensures c.clash_of.ensures (
      refl,
      nothing_else (type_of (view_expr c.args.x.value))
          (untrue c.has_answer.result (type_of (view_expr c.args.x.value) ≢ Nothing) c.if-has_answer.false
          (subst (λ e. IsTrue c.has_answer.result ↔ (type_of (view_expr e) ≢ Nothing)) c.deref.ensures c.has_answer.ensures)),
    )
