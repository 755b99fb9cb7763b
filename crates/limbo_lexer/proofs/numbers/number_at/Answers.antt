use Rattle.std.proofs.Common.{◌∷◌, [], get_or, not, sym, ap, ◌∙◌, subst, refl}
use Rattle.limbo_lexer.specs.Numbers.{digits_value, is_decimal_value, is_radix_value, radix_kind}
use Rattle.limbo_lexer.specs.Tokens.{Decimal, Based}
use Rattle.limbo_lexer.specs.Causes.{IsCauseAt}
use Rattle.limbo_lexer.proofs.Fronts.{behind}
use Rattle.limbo_lexer.proofs.NumberPieces.{decimal_front, based_front}
use Rattle.limbo_lexer.proofs.PieceLemmas.{fits_begins}
use Rattle.limbo_lexer.proofs.Found.{bad_number}
use Rattle.limbo_lexer.proofs.numbers.number_at.Goals as goal

pub returns-in-Ok-clause-found : goal.returns-in-Ok-clause-found
returns-in-Ok-clause-found c =
    let s = c.args.text.now in
    let digits = c.split_at.result.0.now in
    let rest = c.split_at.result.1.now in
    let fits = decimal_front s digits rest c.digits_len.result c.requires c.digits_len.ensures.longest c.split_at.ensures.front c.split_at.ensures.back c.in-None.ensures in
    let h = c.in-Ok.ensures.found in
    fits_begins s (Decimal digits) rest (c.in-Ok.kind ∷ []) fits h.1 (ap not h.0) (ap (λ x. x ∷ []) (sym h.2))

pub returns-in-Err-clause-refused : goal.returns-in-Err-clause-refused
returns-in-Err-clause-refused c =
    let s = c.args.text.now in
    let digits = c.split_at.result.0.now in
    let rest = c.split_at.result.1.now in
    let fits = decimal_front s digits rest c.digits_len.result c.requires c.digits_len.ensures.longest c.split_at.ensures.front c.split_at.ensures.back c.in-None.ensures in
    subst (λ x. IsCauseAt s x) (sym c.fault_before.ensures)
    (bad_number s (Decimal digits) rest (is_decimal_value (digits_value 10 digits)) c.in-Err.cause fits refl refl c.in-Err.ensures.refused)

pub returns-in-Ok-radix_number-clause-found : goal.returns-in-Ok-radix_number-clause-found
returns-in-Ok-radix_number-clause-found c =
    let s = c.args.text.now in
    let digits = c.split_at.result.0.now in
    let after = c.split_at.result.1.now in
    let ds = c.split_at-in-Some.result.0.now in
    let rest = c.split_at-in-Some.result.1.now in
    let len = rw behind at c.digits_len-in-Some.ensures.longest in
    let front = rw behind at c.split_at-in-Some.ensures.front in
    let back = rw behind at c.split_at-in-Some.ensures.back in
    let fits = based_front s digits after c.digits_len.result c.in-Some.radix ds rest c.digits_len-in-Some.result c.requires c.digits_len.ensures.longest c.split_at.ensures.front c.split_at.ensures.back c.in-Some.ensures.0 c.in-Some.ensures.1 len front back in
    let h = c.in-Ok-radix_number.ensures.found in
    let value = ap (λ r. digits_value r ds) c.in-Some.ensures.1 in
    fits_begins s (Based digits (get_or after 0 0) ds) rest (c.in-Ok-radix_number.kind ∷ []) fits (ap is_radix_value (sym value) ∙ h.1) (ap not h.0)
    (ap (λ x. x ∷ []) (ap radix_kind (sym value) ∙ sym h.2))

pub returns-in-Err-radix_number-clause-refused : goal.returns-in-Err-radix_number-clause-refused
returns-in-Err-radix_number-clause-refused c =
    let s = c.args.text.now in
    let digits = c.split_at.result.0.now in
    let after = c.split_at.result.1.now in
    let ds = c.split_at-in-Some.result.0.now in
    let rest = c.split_at-in-Some.result.1.now in
    let len = rw behind at c.digits_len-in-Some.ensures.longest in
    let front = rw behind at c.split_at-in-Some.ensures.front in
    let back = rw behind at c.split_at-in-Some.ensures.back in
    let fits = based_front s digits after c.digits_len.result c.in-Some.radix ds rest c.digits_len-in-Some.result c.requires c.digits_len.ensures.longest c.split_at.ensures.front c.split_at.ensures.back c.in-Some.ensures.0 c.in-Some.ensures.1 len front back in
    let value = ap (λ r. digits_value r ds) c.in-Some.ensures.1 in
    subst (λ x. IsCauseAt s x) (sym c.fault_before-in-Err-radix_number.ensures)
    (bad_number s (Based digits (get_or after 0 0) ds) rest (is_radix_value (digits_value c.in-Some.radix ds)) c.in-Err-radix_number.cause fits (ap is_radix_value (sym value)) refl c.in-Err-radix_number.ensures.refused)
