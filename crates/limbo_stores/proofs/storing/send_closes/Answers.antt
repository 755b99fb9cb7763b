use Rattle.std.proofs.Common.{sym, ap, ◌∙◌}
use Rattle.limbo_types.specs.declared.ty.Ty as code_ty
use Rattle.limbo_types.specs.Types as ty
use Rattle.limbo_types.specs.View.{view_ty}
use Rattle.limbo_types.proofs.View.{view_ty-Chan}
use Rattle.limbo_adts.specs.Table.{defs_of}
use Rattle.limbo_stores.proofs.Nodes.{no_send}
use Rattle.limbo_stores.proofs.Places.{send_told}
use Rattle.limbo_stores.proofs.storing.send_closes.Goals as goal

pub returns-in-Chan : goal.returns-in-Chan
returns-in-Chan c =
    send_told (defs_of c.args.adts.now) (view_ty c.args.channel.now) (view_ty c.deref.result.now) c.reaches.result
    (ap view_ty c.in-Chan.is ∙ view_ty-Chan c.in-Chan.value ∙ ap (λ (u : code_ty.Ty). ty.ChanOf (view_ty u)) (sym c.deref.ensures))
    c.reaches.ensures

pub returns-in_default : goal.returns-in_default
returns-in_default c =
    (λ e. absurd cc, λ k. absurd (no_send (defs_of c.args.adts.now) c.args.channel.now c.in_default.not-Chan k))
