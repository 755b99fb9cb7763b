use Rattle.std.proofs.Common.{sym, ap, ◌∙◌, Some}
use Rattle.std.proofs.lemmas.Result.{IfOk-weaker}
use Rattle.limbo_types.specs.Types as ty
use Rattle.limbo_types.proofs.View.{view_ty-Adt}
use Rattle.limbo_layout.specs.View.{view_defs}
use Rattle.limbo_context.specs.View.{view_context, view_body}
use Rattle.limbo_body_types.specs.Found.{view_meant}
use Rattle.limbo_body_types.proofs.Fields.{field_as}
use Rattle.limbo_body_types.proofs.meant.has_field.Goals as goal

pub returns-in-Some-Adt : goal.returns-in-Some-Adt
returns-in-Some-Adt c =
    IfOk-weaker c.has_part-in-Some-Adt.result _ _ (λ told h.
    field_as (view_context c.args.context.now) (view_body c.args.body.now) c.args.before c.args.name.now told _ (ty.Adt c.in-Some-Adt.number)
    (view_defs c.defs-defs.result.now)
    (sym c.in-Some-Adt.ensures ∙ ap (λ z. Some (view_meant z)) c.in-Some-Adt.field-0-is)
    (view_ty-Adt c.in-Some-Adt.number) (ap view_defs c.defs-defs.ensures) h)
    c.has_part-in-Some-Adt.ensures
