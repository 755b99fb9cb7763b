use Rattle.std.proofs.Common.{◌≢◌, refl, ap, [], map}
use Rattle.limbo_types.specs.declared.ty.Ty.TheVariants as make
use Rattle.limbo_types.specs.Types.{Nothing}
use Rattle.limbo_types.specs.View.{view_ty}
use Rattle.limbo_types.proofs.View.{view_ty-Nothing}
use Rattle.limbo_refusals.specs.Refusals.{Clash}
use Rattle.limbo_causes.specs.Causes.{nothing}
use Rattle.limbo_stmt_values.proofs.Told.{told_alone, told_with}
use Rattle.limbo_raising.proofs.Raised.{none_left}
use Rattle.limbo_raising.proofs.raising.raise_alone.Goals as goal

pub returns-else-is_empty-clause-refused : goal.returns-else-is_empty-clause-refused
returns-else-is_empty-clause-refused c =
    told_with c.refused.result.cause nothing nothing (map view_ty c.args.values.now ≢ [])
    (told_alone c.clash_of.result c.refused.result.cause (Clash (view_ty make.Nothing) (view_ty make.Nothing)) (Clash Nothing Nothing)
    c.refused.ensures c.clash_of.ensures (ap (λ t. Clash t t) view_ty-Nothing)) refl (none_left c.args.values.now c.if-is_empty.ensures)
