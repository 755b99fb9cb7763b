use Rattle.std.proofs.Common.{◌∙◌, sym}
use Rattle.limbo_types.specs.View.{view_ty}
use Rattle.limbo_types.specs.declared.ty.Ty.TheVariants as make
use Rattle.limbo_typed.specs.View.{view_expr}
use Rattle.limbo_refusals.specs.Refusals.{Clash}
use Rattle.limbo_arguments.proofs.Faults.{refuses_that}
use Rattle.limbo_literals.specs.Refusing.{NoLength}
use Rattle.limbo_literals.proofs.Literals.{length_int, length_not}
use Rattle.limbo_literals.proofs.literal.check_length.Goals as goal

pub returns-then-is_int-clause-int : goal.returns-then-is_int-clause-int
returns-then-is_int-clause-int c = length_int c.args.length.now (sym c.is_int.ensures ∙ c.if-is_int.true)

pub returns-clause-refused : goal.returns-clause-refused
returns-clause-refused c =
    let e = c.args.length.now in
    refuses_that c.clash_of.result (Clash (view_ty e.ty) (view_ty make.Int)) (NoLength (view_expr e))
    (length_not e (sym c.is_int.ensures ∙ c.if-is_int.false)) c.clash_of.ensures
