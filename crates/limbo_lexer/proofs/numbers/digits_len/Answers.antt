use Rattle.std.proofs.Common.{◌≡◌, false, length, sym, ap, arith, ◌∙◌, ltb}
use Rattle.std.specs.Char.{is_digit}
use Rattle.std.proofs.lemmas.Bool.Decides.{nat_tests}
use Rattle.limbo_lexer.proofs.Fronts.{stops_at, item_is}
use Rattle.limbo_lexer.proofs.numbers.digits_len.Goals as goal

pub returns-then-digit_value-radix-clause-longest : goal.returns-then-digit_value-radix-clause-longest
returns-then-digit_value-radix-clause-longest c =
    let s = c.args.text.now in
    let r = c.args.radix in
    let not_less : ltb c.digit_value.result r ≡ false = grind (arith, nat_tests) in
    stops_at (λ d. is_digit d r) s c.loop-i.i (omega arith) c.loop-i.invariant
    (λ lt. ap (λ d. is_digit d r) (item_is s c.loop-i.i c.index-text-i.result lt c.index-text-i.is) ∙ ap (λ v. ltb v r) (sym c.digit_value.ensures) ∙ not_less)

pub returns-clause-longest : goal.returns-clause-longest
returns-clause-longest c =
    stops_at (λ d. is_digit d c.args.radix) c.args.text.now (length c.args.text.now) (omega arith)
    (λ k h. c.loop-i.invariant k (omega arith)) (λ h. absurd (omega arith))
