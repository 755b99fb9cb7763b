use Rattle.std.proofs.Common.{◌/◌, sym, ◌∙◌, arith}
use Rattle.dis_slices.proofs.Marked.{any_none, any_some}
use Rattle.dis_slices.proofs.kinds.refers_in.Goals as goal

pub returns-then-is_reference : goal.returns-then-is_reference
returns-then-is_reference c =
    sym (any_some c.args.desc.now 0 (c.args.desc.now.size / 4) c.loop-k.k (omega arith) (omega (arith, c.loop-k-test.true)) (sym c.is_reference.ensures ∙ c.if-is_reference.true))

pub returns : goal.returns
returns c = sym (any_none c.args.desc.now 0 (c.args.desc.now.size / 4) (λ j lt. c.loop-k.invariant j (omega (arith, lt, c.loop-k-test.false))))
