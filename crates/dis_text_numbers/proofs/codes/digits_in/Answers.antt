use Rattle.std.proofs.Common.{◌≡◌, ℕ, ◌+◌, ◌-◌, ◌*◌, ◌%◌, ◌^◌, ◌∷◌, ◌<◌, List, length, drop, get_or, true, sym, ap, ◌∙◌, arith, add-one, drop-cons}
use Rattle.inf_text.specs.InFront.{is_digit, number_after}
use Rattle.dis_text_numbers.proofs.Digits.{number_after_same, number_after_digit}
use Rattle.dis_text_numbers.proofs.codes.digits_in.Goals as goal

pub loop-code-preserved : goal.loop-code-preserved
loop-code-preserved c =
    let codes = c.args.codes.now in
    let i = c.loop-code.code-index in
    let n = c.loop-code.number in
    let code = get_or codes i 0 in
    let rest : List ℕ = drop (i + 1) codes in
    let inside : i < length codes = omega arith in
    let front : drop i codes ≡ code ∷ rest = rw (add-one, drop-cons codes i 0) in
    let digit : is_digit code ≡ true = sym c.is_digit.ensures ∙ c.if-not-is_digit.false in
    let taken : number_after n (drop i codes) ≡ number_after (10 * n + (code - 48)) rest =
    ap (number_after n) front ∙ number_after_digit n code rest digit in
    let wrapped : (10 * n + (code - 48)) % 2 ^ 64 ≡ ((n * 10 % 2 ^ 64 + c.from-digit.result) % 2 ^ 64) % 2 ^ 64 = omega (arith, c.from-digit.ensures) in
    c.loop-code.invariant ∙ ap (λ m. m % 2 ^ 64) taken ∙ number_after_same rest (10 * n + (code - 48)) ((n * 10 % 2 ^ 64 + c.from-digit.result) % 2 ^ 64) (2 ^ 64) wrapped
