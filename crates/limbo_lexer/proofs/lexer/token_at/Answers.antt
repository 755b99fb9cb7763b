use Rattle.std.proofs.Common.{◌≡◌, ◌<◌, ℕ, true, List, [], ◌∷◌, length, sym, ◌∙◌, subst, arith}
use Rattle.std.proofs.lemmas.Bool.{false≢true}
use Rattle.limbo_lexer.specs.Numbers.{begins}
use Rattle.limbo_lexer.specs.Pieces.{is_token_char}
use Rattle.limbo_lexer.specs.Causes.{IsCauseAt}
use Rattle.limbo_lexer.proofs.Fronts.{behind, starts_with}
use Rattle.limbo_lexer.proofs.Found.{word_first, mark_first, no_mark_first}
use Rattle.limbo_lexer.proofs.lexer.token_at.Goals as goal

some_left : (s : List ℕ) → begins is_token_char s ≡ true → 0 < length s
some_left [] h = absurd (false≢true h)
some_left (c ∷ s) h = omega arith

pub returns-then-is_letter-clause-found : goal.returns-then-is_letter-clause-found
returns-then-is_letter-clause-found c =
    let s = c.args.text.now in
    let x = c.index-text-0.result in
    word_first s x c.split_at.result.0.now c.split_at.result.1.now c.in_ok-word_kind.field-0 c.name_len.result
    (starts_with s x (some_left s c.requires) c.index-text-0.is) (sym c.is_letter.ensures ∙ c.if-is_letter.true) c.name_len.ensures.longest c.split_at.ensures.front c.split_at.ensures.back c.in_ok-word_kind.ensures

pub returns-in-Some-clause-found : goal.returns-in-Some-clause-found
returns-in-Some-clause-found c =
    let s = c.args.text.now in
    let x = c.index-text-0.result in
    rw behind (mark_first s x c.in-Some.mark c.in-Some.n (starts_with s x (some_left s c.requires) c.index-text-0.is) c.requires (sym c.is_letter.ensures ∙ c.if-is_letter.false) (sym c.is_digit.ensures ∙ c.if-is_digit.false) c.in-Some.ensures)

pub returns-in-None-clause-refused : goal.returns-in-None-clause-refused
returns-in-None-clause-refused c =
    let s = c.args.text.now in
    let x = c.index-text-0.result in
    subst (λ y. IsCauseAt s y) (sym c.fault_at.ensures)
    (no_mark_first s x (starts_with s x (some_left s c.requires) c.index-text-0.is) c.requires (sym c.is_letter.ensures ∙ c.if-is_letter.false) (sym c.is_digit.ensures ∙ c.if-is_digit.false) c.in-None.ensures)
