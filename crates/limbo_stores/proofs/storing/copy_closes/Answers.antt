use Rattle.std.proofs.Common.{sym, ap, ◌∙◌}
use Rattle.limbo_types.specs.declared.ty.Ty as code_ty
use Rattle.limbo_types.specs.Types as ty
use Rattle.limbo_types.specs.View.{view_ty}
use Rattle.limbo_types.proofs.View.{view_ty-Array}
use Rattle.limbo_adts.specs.Table.{defs_of}
use Rattle.limbo_stores.proofs.Nodes.{no_copy}
use Rattle.limbo_stores.proofs.Places.{copy_told}
use Rattle.limbo_stores.proofs.storing.copy_closes.Goals as goal

pub returns-in-Array : goal.returns-in-Array
returns-in-Array c =
    copy_told (defs_of c.args.adts.now) (view_ty c.args.array.now) (view_ty c.deref.result.now) c.reaches.result
    (ap view_ty c.in-Array.is ∙ view_ty-Array c.in-Array.element ∙ ap (λ (u : code_ty.Ty). ty.ArrayOf (view_ty u)) (sym c.deref.ensures))
    c.reaches.ensures

pub returns-in_default : goal.returns-in_default
returns-in_default c =
    (λ e. absurd cc, λ k. absurd (no_copy (defs_of c.args.adts.now) c.args.array.now c.in_default.not-Array k))
