use Rattle.std.proofs.Common.{arith, ◌≡◌, ◌+◌, length}
use Rattle.core_parts.specs.Lowered.{view_lowered}
use Rattle.core_parts.proofs.Coded.{code_of_length}
use Rattle.core_parts.proofs.Joined.{connect_is}
use Rattle.core_parts.proofs.several.connect.Goals as goal

pub returns : goal.returns
returns c =
    let a = view_lowered c.args.left in
    let b = view_lowered c.args.right in
    let long : c.len.result + 1 ≡ length b.code + 1 =
    omega (arith, c.len.ensures, c.args.right.code.ok.0, code_of_length c.args.right.code.items) in
    connect_is c.args.connective c.args.held a b c.decision_in.result (c.len.result + 1) _ _ _ _ c.decision_in.ensures long
    (c.in_ok-put.ensures {u = tt}) (c.in_ok-put_all.ensures {u = tt}) (c.in_ok-put-2.ensures {u = tt})
    (c.in_ok-put_mirrored.ensures {u = tt})
