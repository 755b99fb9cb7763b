use Rattle.std.proofs.Common.{arith, ◌≡◌, ◌+◌, length, ap, ◌∙◌}
use Rattle.core_parts.specs.Lowered.{code_of}
use Rattle.core_parts.proofs.Coded.{code_of_none, code_of_length}
use Rattle.core_parts.proofs.Joined.{turns_is}
use Rattle.core_parts.proofs.initialisers.turns_of.Goals as goal

pub returns : goal.returns
returns c =
    let turn = code_of c.args.turn.items in
    let long : c.len-steps.result + 1 ≡ length turn + 1 = omega
    (arith, c.len-steps.ensures, c.args.turn.ok.0, code_of_length c.args.turn.items) in
    turns_is c.args.array c.args.named.items c.args.turns turn (c.len-steps.result + 1) _ _ _ _ _
    (ap code_of c.new-code.ensures.items ∙ code_of_none)
    long (c.in_ok-put.ensures {u = tt}) (c.in_ok-put-2.ensures {u = tt}) (c.in_ok-put_all.ensures {u = tt})
    (c.in_ok-put-3.ensures {u = tt})
