use Rattle.std.proofs.Common.{arith, ◌≡◌, ◌+◌, length, ap, ◌∙◌}
use Rattle.core_parts.specs.Lowered.{code_of}
use Rattle.core_parts.proofs.Coded.{code_of_none, code_of_length}
use Rattle.core_parts.proofs.Joined.{turned_back_is}
use Rattle.core_parts.proofs.initialisers.turned_back.Goals as goal

pub returns : goal.returns
returns c =
    let is = code_of c.args.drops.items in
    let long : c.len-steps.result + 1 ≡ length is + 1 = omega
    (arith, c.len-steps.ensures, c.args.drops.ok.0, code_of_length c.args.drops.items) in
    turned_back_is c.args.turns c.args.from c.args.words is (c.len-steps.result + 1) _ _ _ _ (ap code_of c.new-all.ensures.items
    ∙ code_of_none)
    long (c.in_ok-put.ensures {u = tt}) (c.in_ok-put_all.ensures {u = tt}) (c.in_ok-put-2.ensures {u = tt})
