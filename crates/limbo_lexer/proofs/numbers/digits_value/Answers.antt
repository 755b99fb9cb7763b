use Rattle.std.proofs.Common.{◌≡◌, ◌≤◌, ◌+◌, ◌*◌, ap, arith, ◌∙◌}
use Rattle.std.proofs.lemmas.List.{take_all}
use Rattle.std.specs.Char.{digit_value}
use Rattle.std.specs.List.{fold}
use Rattle.limbo_lexer.specs.Numbers.{digits_value}
use Rattle.limbo_lexer.proofs.Values.{value_grows, more_value}
use Rattle.limbo_lexer.proofs.numbers.digits_value.Goals as goal

pub returns-in_err-checked_mul : goal.returns-in_err-checked_mul
returns-in_err-checked_mul c =
    let v = c.loop-c.value in
    let r = c.args.radix in
    let grows : v * r + digit_value c.c-item.result ≤ digits_value r c.args.digits.now = value_grows r c.args.digits.now c.loop-c.c-index c.c-item.result v c.requires c.loop-c-test.true c.c-item.is c.loop-c.invariant.0 in
    let is : c.from.result ≡ r = c.from.ensures in
    let product : v * c.from.result ≡ v * r = ap (λ x. v * x) is in
    rw c.from_residual.ensures (λ small. c.in_err-checked_mul.ensures (omega (arith, grows, product, small)))

pub returns-in_err-value : goal.returns-in_err-value
returns-in_err-value c =
    let v = c.loop-c.value in
    let r = c.args.radix in
    let grows : v * r + digit_value c.c-item.result ≤ digits_value r c.args.digits.now = value_grows r c.args.digits.now c.loop-c.c-index c.c-item.result v c.requires c.loop-c-test.true c.c-item.is c.loop-c.invariant.0 in
    let is : c.from.result ≡ r = c.from.ensures in
    let product : v * c.from.result ≡ v * r = ap (λ x. v * x) is in
    let mul = c.in_ok-checked_mul.ensures in
    let digit : c.from-in-loop-c.result ≡ digit_value c.c-item.result = c.from-in-loop-c.ensures ∙ c.digit_value.ensures in
    rw c.from_residual-in_err-value.ensures (λ small. c.in_err-value.ensures (omega (arith, grows, product, small, mul.1, digit)))

pub returns : goal.returns
returns c =
    let s = c.args.digits.now in
    let r = c.args.radix in
    let whole : c.loop-c.value ≡ digits_value r s = c.loop-c.invariant.0 ∙ ap (λ x. fold (more_value r) 0 x) (take_all c.loop-c.c-index s c.loop-c-test.false) in
    (omega (arith, whole, c.loop-c.invariant.1), whole)
