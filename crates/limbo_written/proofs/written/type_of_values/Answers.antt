use Rattle.std.proofs.Common.{subst}
use Rattle.limbo_types.specs.declared.ty.Ty as code_ty
use Rattle.limbo_types.specs.View.{view_ty}
use Rattle.limbo_refusals.specs.Refusals.{Refuses}
use Rattle.limbo_context.specs.View.{view_context, view_body}
use Rattle.limbo_permits.specs.Permits.{ForbidsType}
use Rattle.limbo_written.proofs.Told.{told_none, told_forbidden}
use Rattle.limbo_written.proofs.written.type_of_values.Goals as goal

pub returns-in-Err-clause-refused : goal.returns-in-Err-clause-refused
returns-in-Err-clause-refused c =
    told_none (view_context c.args.context.now) (view_body c.args.body.now) c.args.t.now c.told.result.cause c.in-Err.fault
    c.in-Err.ensures.refused c.told.ensures.cause

pub returns-in-Err-permit_type-clause-refused : goal.returns-in-Err-permit_type-clause-refused
returns-in-Err-permit_type-clause-refused c =
    told_forbidden (view_context c.args.context.now) (view_body c.args.body.now) c.args.t.now c.in-Err-permit_type.fault
    (view_ty c.in-Ok.u.value) c.in-Ok.ensures.means
    (subst (λ (z : code_ty.Ty). Refuses c.in-Err-permit_type.fault (ForbidsType (view_context c.args.context.now) (view_ty z)))
    c.deref.ensures c.in-Err-permit_type.ensures.refused)
