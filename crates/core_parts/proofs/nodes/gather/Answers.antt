use Rattle.std.proofs.Common.{arith}
use Rattle.core_parts.specs.Lowered.{view_lowered_all}
use Rattle.core_parts.specs.Nodes.{view_whole}
use Rattle.core_parts.proofs.Noded.{gather_is}
use Rattle.core_parts.proofs.nodes.gather.Goals as goal

pub returns : goal.returns
returns c = λ defs.
    let l = view_lowered_all c.args.all in
    let w = view_whole c.args.whole in
    let code = rw c.deref.ensures.value at ((c.in_ok-code.ensures {u = tt}) defs) in
    let drops = rw c.deref-2.ensures.value at c.move_all.ensures in
    gather_is defs c.args.operation w l _ _ _ _ (omega (arith, c.args.all.values.ok.0, c.len.ensures)) code
    (c.in_ok-put.ensures {u = tt}) drops
