use Rattle.limbo_types.specs.View.{view_ty}
use Rattle.limbo_typed.specs.View.{view_expr}
use Rattle.limbo_refusals.specs.Refusals.{Clash}
use Rattle.limbo_arguments.proofs.Faults.{refuses_that}
use Rattle.limbo_calls.specs.Refusing.{FailsAsFile}
use Rattle.limbo_calls.proofs.Prints.{no_fd}
use Rattle.limbo_calls.proofs.printing.settle_file.Goals as goal

pub returns-in_default-clause-refused : goal.returns-in_default-clause-refused
returns-in_default-clause-refused c =
    let a = c.deref.result.now in
    let b = c.deref-in_default.result.now in
    refuses_that c.clash_of.result (Clash (view_ty a.ty) (view_ty b.ty)) (FailsAsFile (view_expr c.args.file.value) c.args.fd)
    (no_fd c.args.fd c.args.file.value a b c.in_default.not-Some c.deref.ensures c.deref-in_default.ensures) c.clash_of.ensures
