use Rattle.std.proofs.Common.{◌≡◌, ◌+◌, ◌-◌, sym, ◌∙◌, arith}
use Rattle.dis_filling.proofs.Stands.{plain_step}
use Rattle.dis_filling.proofs.filled.all_plain.Goals as goal

pub loop-at-preserved : goal.loop-at-preserved
loop-at-preserved c =
    let n = c.args.offset + c.args.count - c.loop-at.at in
    let k : c.args.offset + c.args.count - (c.loop-at.at + 1) ≡ n - 1 = omega arith in
    rw k (plain_step c.args.types.now c.args.block c.loop-at.at n (omega (arith, c.loop-at-test.true))
    (sym c.is_reference.ensures ∙ c.if-is_reference.false) ∙ c.loop-at.invariant)
