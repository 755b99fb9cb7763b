use Rattle.limbo_types.specs.View.{view_ty}
use Rattle.limbo_typed.specs.View.{view_expr}
use Rattle.std.proofs.Common.{rules}
use Rattle.limbo_refusals.specs.Refusals.{Clash}
use Rattle.limbo_arguments.specs.Failing.{FailsAt}
use Rattle.limbo_arguments.proofs.Each.{clash_at}
use Rattle.limbo_arguments.proofs.Faults.{refuses_that}
use Rattle.limbo_arguments.proofs.argument.settle_or_clash.Goals as goal

pub returns-clause-refused : goal.returns-clause-refused
returns-clause-refused c =
    let t = view_ty c.args.asked.now in
    refuses_that c.clash_of.result (Clash (view_ty c.in_ok-given.given) t) (FailsAt t (view_expr c.args.value.now))
    (clash_at c.in_ok-given.given t c.args.value.now c.in_ok-given.ensures (c.in_ok-settle.ensures.refused (search rules)))
    c.clash_of.ensures
