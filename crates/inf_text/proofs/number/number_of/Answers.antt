use Rattle.std.proofs.Common.{◌≡◌, ℕ, ◌+◌, ◌-◌, ◌*◌, ◌%◌, ◌^◌, ◌∷◌, ◌<◌, List, length, drop, get_or, true, sym, ap, ◌∙◌, arith, add-one, drop-cons}
use Rattle.inf_text.specs.InFront.{is_digit, number_after}
use Rattle.inf_text.proofs.NumberLemmas.{number_after_same, number_after_digit}
use Rattle.inf_text.proofs.number.number_of.Goals as goal

pub loop-c-preserved : goal.loop-c-preserved
loop-c-preserved c =
    let chars = c.args.chars.now in
    let i = c.loop-c.c-index in
    let n = c.loop-c.number in
    let char = c.c-item.result in
    let rest : List ℕ = drop (i + 1) chars in
    let inside : i < length chars = omega arith in
    let cut : drop i chars ≡ get_or chars i char ∷ rest = rw (add-one, drop-cons chars i char) in
    let front : drop i chars ≡ char ∷ rest = cut ∙ ap (λ x. x ∷ rest) (sym c.c-item.is) in
    let digit : is_digit char ≡ true = sym c.is_digit.ensures ∙ c.if-not-is_digit.false in
    let taken : number_after n (drop i chars) ≡ number_after (10 * n + (char - 48)) rest =
    ap (number_after n) front ∙ number_after_digit n char rest digit in
    let wrapped : (10 * n + (char - 48)) % 2 ^ 64 ≡ ((n * 10 % 2 ^ 64 + c.from-digit.result) % 2 ^ 64) % 2 ^ 64 = omega (arith, c.from-digit.ensures) in
    c.loop-c.invariant ∙ ap (λ m. m % 2 ^ 64) taken ∙ number_after_same rest (10 * n + (char - 48)) ((n * 10 % 2 ^ 64 + c.from-digit.result) % 2 ^ 64) (2 ^ 64) wrapped
