use Rattle.std.proofs.Common.{◌==◌, not, length, ap, ◌∙◌, arith}
use Rattle.limbo_lexer.proofs.Fronts.{stops_at, item_is}
use Rattle.limbo_lexer.proofs.lexer.line_len.Goals as goal

pub returns-then-c-eq10-clause-longest : goal.returns-then-c-eq10-clause-longest
returns-then-c-eq10-clause-longest c =
    let s = c.args.text.now in
    stops_at (λ b. not (b == 10)) s c.loop-i.i (omega arith) c.loop-i.invariant
    (λ lt. ap (λ b. not (b == 10)) (item_is s c.loop-i.i c.index-text-i.result lt c.index-text-i.is ∙ c.if-c-eq10.true))

pub returns-clause-longest : goal.returns-clause-longest
returns-clause-longest c =
    stops_at (λ b. not (b == 10)) c.args.text.now (length c.args.text.now) (omega arith)
    (λ k h. c.loop-i.invariant k (omega arith)) (λ h. absurd (omega arith))
