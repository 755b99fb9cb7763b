use Rattle.std.proofs.Common.{◌≡◌, ◌<◌, ℕ, true, eqb, List, [], ◌∷◌, ◌||◌, length, get_or, drop, sym, ap, ◌∙◌, subst, arith, ⊎_elim, pos, w64, rules}
use Rattle.std.proofs.lemmas.Grind.{common_steps}
use Rattle.std.specs.Int.{cast_signed, cast_unsigned}
use Rattle.std.proofs.lemmas.Bool.{false≢true, or_cases, eqb-true}
use Rattle.limbo_lexer.specs.Numbers.{begins}
use Rattle.limbo_lexer.specs.Causes.{IsCauseAt}
use Rattle.limbo_lexer.proofs.Fronts.{behind, starts_with}
use Rattle.limbo_lexer.proofs.Found.{string_first, character_first, string_cause, character_cause}
use Rattle.limbo_lexer.proofs.lexer.constant_at.Goals as goal

some_left : (s : List ℕ) → begins (λ c. eqb c 34 || eqb c 39) s ≡ true → 0 < length s
some_left [] h = absurd (false≢true h)
some_left (c ∷ s) h = omega arith

quote : (s : List ℕ) (x : ℕ) → begins (λ c. eqb c 34 || eqb c 39) s ≡ true → x ≡ get_or s 0 x → x ≡ 34 → s ≡ 34 ∷ drop 1 s
quote s x h is e = starts_with s x (some_left s h) is ∙ ap (λ y. y ∷ drop 1 s) e

apostrophe : (s : List ℕ) (x : ℕ) → begins (λ c. eqb c 34 || eqb c 39) s ≡ true → x ≡ get_or s 0 x → (x ≡ 34 → ⊥) → s ≡ 39 ∷ drop 1 s
apostrophe s x h is e =
    let whole = starts_with s x (some_left s h) is in
    let t : (eqb x 34 || eqb x 39) ≡ true = ap (begins (λ c. eqb c 34 || eqb c 39)) (sym whole) ∙ h in
    whole ∙ ap (λ y. y ∷ drop 1 s) (⊎_elim (λ a. absurd (e (eqb-true x 34 a))) (λ a. eqb-true x 39 a) (or_cases (eqb x 34) (eqb x 39) t))

pub returns-in-Ok-clause-found : goal.returns-in-Ok-clause-found
returns-in-Ok-clause-found c =
    let s = c.args.text.now in
    string_first s c.in-Ok.chars c.in-Ok.rest.now (quote s c.index-text-0.result c.requires c.index-text-0.is c.if-text-eq34.true) (rw behind at c.in-Ok.ensures.found)

pub returns-in-Err-clause-refused : goal.returns-in-Err-clause-refused
returns-in-Err-clause-refused c =
    let s = c.args.text.now in
    subst (λ x. IsCauseAt s x) (sym c.fault_of_constant.ensures)
    (string_cause s c.in-Err.fault.cause (quote s c.index-text-0.result c.requires c.index-text-0.is c.if-text-eq34.true) (rw behind at c.in-Err.ensures.refused))

pub returns-in-Ok-character_at-clause-found : goal.returns-in-Ok-character_at-clause-found
returns-in-Ok-character_at-clause-found c =
    let s = c.args.text.now in
    let read : cast_signed w64 (cast_unsigned w64 c.from.result) ≡ pos c.in-Ok-character_at.c = first_of (search rules, grind (arith, common_steps)) in
    rw read (character_first s c.in-Ok-character_at.c c.in-Ok-character_at.rest.now (apostrophe s c.index-text-0.result c.requires c.index-text-0.is c.if-text-eq34.false) (rw behind at c.in-Ok-character_at.ensures.found))

pub returns-in-Err-character_at-clause-refused : goal.returns-in-Err-character_at-clause-refused
returns-in-Err-character_at-clause-refused c =
    let s = c.args.text.now in
    subst (λ x. IsCauseAt s x) (sym c.fault_of_constant-in-Err-character_at.ensures)
    (character_cause s c.in-Err-character_at.fault.cause (apostrophe s c.index-text-0.result c.requires c.index-text-0.is c.if-text-eq34.false) (rw behind at c.in-Err-character_at.ensures.refused))
