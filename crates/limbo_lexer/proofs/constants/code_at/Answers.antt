use Rattle.std.proofs.Common.{◌≡◌, ◌<◌, ℕ, ◌+◌, ◌*◌, arith, subst, ⊎_elim}
use Rattle.std.specs.Char.{digit_value}
use Rattle.limbo_lexer.specs.Constants.{code_value}
use Rattle.limbo_lexer.proofs.Fronts.{item_is}
use Rattle.limbo_lexer.proofs.Codes.{code_cases, no_code_digits}
use Rattle.limbo_lexer.proofs.constants.code_at.Goals as goal

value_is : (a b c d x y z w : ℕ) → x ≡ digit_value a → y ≡ digit_value b → z ≡ digit_value c → w ≡ digit_value d → ((x * 16 + y) * 16 + z) * 16 + w ≡ code_value a b c d
value_is a b c d x y z w ha hb hc hd = omega (arith, ha, hb, hc, hd)

pub returns-then-d-lt16-clause-found : goal.returns-then-d-lt16-clause-found
returns-then-d-lt16-clause-found c =
    let s = c.args.text.now in
    let n0 = item_is s 0 c.index-text-0.result (omega arith) c.index-text-0.is in
    let n1 = item_is s 1 c.index-text-1.result (omega arith) c.index-text-1.is in
    let n2 = item_is s 2 c.index-text-2.result (omega arith) c.index-text-2.is in
    let n3 = item_is s 3 c.index-text-3.result (omega arith) c.index-text-3.is in
    let h = code_cases c.from_u32.result _ c.index-text-0.result c.index-text-1.result c.index-text-2.result c.index-text-3.result
    (subst (λ x. x < 16) c.digit_value-a.ensures c.if-a-lt16.true) (subst (λ x. x < 16) c.digit_value-b.ensures c.if-b-lt16.true)
    (subst (λ x. x < 16) c.digit_value-c.ensures c.if-c-lt16.true) (subst (λ x. x < 16) c.digit_value-d.ensures c.if-d-lt16.true)
    (value_is c.index-text-0.result c.index-text-1.result c.index-text-2.result c.index-text-3.result c.digit_value-a.result c.digit_value-b.result c.digit_value-c.result c.digit_value-d.result c.digit_value-a.ensures c.digit_value-b.ensures c.digit_value-c.ensures c.digit_value-d.ensures)
    c.from_u32.ensures.value c.from_u32.ensures.cases
    in
    rw (n0, n1, n2, n3) h.0

pub returns-then-d-lt16-clause-refused : goal.returns-then-d-lt16-clause-refused
returns-then-d-lt16-clause-refused c =
    let s = c.args.text.now in
    let n0 = item_is s 0 c.index-text-0.result (omega arith) c.index-text-0.is in
    let n1 = item_is s 1 c.index-text-1.result (omega arith) c.index-text-1.is in
    let n2 = item_is s 2 c.index-text-2.result (omega arith) c.index-text-2.is in
    let n3 = item_is s 3 c.index-text-3.result (omega arith) c.index-text-3.is in
    let h = code_cases c.from_u32.result _ c.index-text-0.result c.index-text-1.result c.index-text-2.result c.index-text-3.result
    (subst (λ x. x < 16) c.digit_value-a.ensures c.if-a-lt16.true) (subst (λ x. x < 16) c.digit_value-b.ensures c.if-b-lt16.true)
    (subst (λ x. x < 16) c.digit_value-c.ensures c.if-c-lt16.true) (subst (λ x. x < 16) c.digit_value-d.ensures c.if-d-lt16.true)
    (value_is c.index-text-0.result c.index-text-1.result c.index-text-2.result c.index-text-3.result c.digit_value-a.result c.digit_value-b.result c.digit_value-c.result c.digit_value-d.result c.digit_value-a.ensures c.digit_value-b.ensures c.digit_value-c.ensures c.digit_value-d.ensures)
    c.from_u32.ensures.value c.from_u32.ensures.cases
    in
    rw (n0, n1, n2, n3) h.1

pub returns-else-a-lt16-clause-refused : goal.returns-else-a-lt16-clause-refused
returns-else-a-lt16-clause-refused c =
    let s = c.args.text.now in
    let n0 = item_is s 0 c.index-text-0.result (omega arith) c.index-text-0.is in
    let n1 = item_is s 1 c.index-text-1.result (omega arith) c.index-text-1.is in
    let n2 = item_is s 2 c.index-text-2.result (omega arith) c.index-text-2.is in
    let n3 = item_is s 3 c.index-text-3.result (omega arith) c.index-text-3.is in
    let h = no_code_digits c.index-text-0.result c.index-text-1.result c.index-text-2.result c.index-text-3.result
    (λ ha hb hc hd. ⊎_elim (λ w. omega (arith, c.digit_value-d.ensures, hd, w.3)) (λ w. ⊎_elim (λ w. omega (arith, c.digit_value-c.ensures, hc, w.2)) (λ w. ⊎_elim (λ w. omega (arith, c.digit_value-b.ensures, hb, w.1)) (λ w. omega (arith, c.digit_value-a.ensures, ha, w)) w) w) c.else-a-lt16.either)
    in
    rw (n0, n1, n2, n3) h
