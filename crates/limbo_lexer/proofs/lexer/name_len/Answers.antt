use Rattle.std.proofs.Common.{length, sym, ap, arith, ◌∙◌}
use Rattle.limbo_lexer.specs.Tokens.{is_name_char}
use Rattle.limbo_lexer.proofs.Fronts.{stops_at, item_is}
use Rattle.limbo_lexer.proofs.lexer.name_len.Goals as goal

pub returns-then-not-is_name_char-clause-longest : goal.returns-then-not-is_name_char-clause-longest
returns-then-not-is_name_char-clause-longest c =
    let s = c.args.text.now in
    stops_at is_name_char s c.loop-i.i (omega arith) c.loop-i.invariant
    (λ lt. ap is_name_char (item_is s c.loop-i.i c.index-text-i.result lt c.index-text-i.is) ∙ sym c.is_name_char.ensures ∙ c.if-not-is_name_char.true)

pub returns-clause-longest : goal.returns-clause-longest
returns-clause-longest c =
    stops_at is_name_char c.args.text.now (length c.args.text.now) (omega arith)
    (λ k h. c.loop-i.invariant k (omega arith)) (λ h. absurd (omega arith))
