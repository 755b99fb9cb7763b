use Rattle.std.proofs.Common.{◌≡◌, ℕ, ◌<◌, ◌≤◌, List, arith, subst, ◌⊎◌, ⊎_elim}
use Rattle.limbo_lexer.specs.Pieces.{HasNoMark}
use Rattle.limbo_lexer.proofs.lexer.mark_at.Goals as goal

three : (m : ℕ) → 0 < m → m ≤ 3 → (1 ≡ m) ⊎ ((2 ≡ m) ⊎ (3 ≡ m))
three m a b = grind arith

no_marks : (s : List ℕ) → HasNoMark s 1 → HasNoMark s 2 → HasNoMark s 3 → (m : ℕ) → 0 < m → m ≤ 3 → HasNoMark s m
no_marks s h1 h2 h3 m a b = ⊎_elim (λ e. subst (λ x. HasNoMark s x) e h1) (λ w. ⊎_elim (λ e. subst (λ x. HasNoMark s x) e h2) (λ e. subst (λ x. HasNoMark s x) e h3) w) (three m a b)

two : (m : ℕ) → 1 < m → m ≤ 3 → (2 ≡ m) ⊎ (3 ≡ m)
two m a b = grind arith

pub returns-in_err-mark : goal.returns-in_err-mark
returns-in_err-mark c =
    rw c.from_residual.ensures (no_marks c.args.text.now c.in_err-mark.ensures c.in_default-mark_of_len.ensures c.in_default.ensures)

pub returns : goal.returns
returns c = record {
  bound = c.in_ok-mark.ensures.0;
  listed = c.in_ok-mark.ensures.1;
  longest = λ m a b. ⊎_elim (λ e. subst (λ x. HasNoMark c.args.text.now x) e c.in_default-mark_of_len.ensures) (λ e. subst (λ x. HasNoMark c.args.text.now x) e c.in_default.ensures) (two m a b);
}
