use Rattle.limbo_types.specs.View.{view_ty}
use Rattle.core_parts.specs.Lowered.{view_lowered_all}
use Rattle.core_parts.specs.Nodes.{view_whole}
use Rattle.core_parts.proofs.Noded.{call_is}
use Rattle.core_parts.proofs.nodes.call.Goals as goal

pub returns : goal.returns
returns c = λ defs.
    let l = view_lowered_all c.args.all in
    let w = view_whole c.args.whole.now in
    let code = rw c.deref.ensures.value at ((c.in_ok-code.ensures {u = tt}) defs) in
    let into = rw c.deref-2.ensures.value at c.value_slot-into.ensures.exact in
    let operands = rw c.deref-3.ensures.value at c.operands_slot-operands.ensures in
    let drops = rw c.deref-4.ensures.value at c.move_all.ensures in
    call_is defs (view_ty c.args.ty) c.args.function c.args.references w l _ _ _ _ _ _ into operands code (c.in_ok-put.ensures {u = tt})
    drops (c.in_ok-put_drops.ensures {u = tt})
