use Rattle.std.proofs.Common.{refl, ap}
use Rattle.limbo_types.specs.declared.ty.Ty.TheVariants as make
use Rattle.limbo_types.specs.Types.{Nothing}
use Rattle.limbo_types.specs.View.{view_ty}
use Rattle.limbo_types.proofs.View.{view_ty-Nothing}
use Rattle.limbo_refusals.specs.Refusals.{Clash}
use Rattle.limbo_stmt_values.proofs.Told.{told_alone}
use Rattle.limbo_modules.proofs.refusing.no_type.Goals as goal

pub returns : goal.returns
returns c =
    told_alone c.clash_of.result _ (Clash (view_ty make.Nothing) (view_ty make.Nothing)) (Clash Nothing Nothing) refl c.clash_of.ensures
    (ap (λ t. Clash t t) view_ty-Nothing)
