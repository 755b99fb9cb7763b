use Rattle.std.proofs.lemmas.Result.{err_from_is_err_and}
use Rattle.limbo_types.specs.View.{view_ty}
use Rattle.limbo_typed.specs.View.{view_optional}
use Rattle.limbo_arguments.proofs.Faults.{refuses_weaker}
use Rattle.limbo_literals.specs.Refusing.{FailsRest, UnlikeItems, the_rest}
use Rattle.limbo_literals.proofs.Elements.{left}
use Rattle.limbo_literals.proofs.literal.settled_array.Goals as goal

pub returns-in_err-settle_rest-clause-refused : goal.returns-in_err-settle_rest-clause-refused
returns-in_err-settle_rest-clause-refused c =
    let p = err_from_is_err_and c.from_residual-in_err-settle_rest.result c.from_residual-in_err-settle_rest.ensures.1 in
    let t = view_ty c.args.item in
    let rest = view_optional c.args.rest in
    rw (p.1, p.2)
    (refuses_weaker c.in_err-settle_rest.field-0.0 (FailsRest t rest) (UnlikeItems t (left c.args.items.items) rest)
    (λ r h. the_rest (left c.in_ok-settled.settled.items) c.in_ok-settled.ensures.settled h) c.in_err-settle_rest.ensures.refused)
