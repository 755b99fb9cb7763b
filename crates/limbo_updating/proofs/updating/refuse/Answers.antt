use Rattle.std.proofs.Common.{◌≡◌, sym, subst}
use Rattle.limbo_typed.specs.declared.expr.TExpr as code_expr
use Rattle.limbo_typed.specs.View.{view_expr}
use Rattle.limbo_typed.specs.Sound.{type_of}
use Rattle.limbo_refusals.specs.Refusals.{Refusal, Clash, Refuses}
use Rattle.limbo_operands.proofs.Refused.{refuses_so}
use Rattle.limbo_updating.specs.Updating.{RowlessFails, no_place, of_operands}
use Rattle.limbo_updating.proofs.Updated.{at}
use Rattle.limbo_updating.proofs.updating.refuse.Goals as goal

pub returns-in-Some : goal.returns-in-Some
returns-in-Some c =
    refuses_so c.misfit-fault.result (λ q. q ≡ Clash (type_of (view_expr c.args.place.value)) (type_of (view_expr c.args.value.now)))
    (RowlessFails (view_expr c.args.place.value) (view_expr c.args.value.now))
    (λ q e. subst (λ (z : Refusal). RowlessFails (view_expr c.args.place.value) (view_expr c.args.value.now) z) (sym e) of_operands)
    (at (λ (x : code_expr.TExpr). Refuses c.misfit-fault.result (λ q. q ≡ Clash (type_of (view_expr x)) (type_of (view_expr c.args.value.now))))
    c.deref.result.now c.args.place.value c.deref.ensures c.misfit-fault.ensures)

pub returns-in-None : goal.returns-in-None
returns-in-None c = no_place c.in-None.ensures.none
