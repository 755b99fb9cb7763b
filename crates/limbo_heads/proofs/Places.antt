-- The innermost loop or branch, as the code finds it.
use Rattle.std.proofs.Common.{◌≡◌, ◌<◌, ◌≤◌, ◌+◌, ◌⊎◌, inl, inr, ℕ, List, length}
use Rattle.std.proofs.Common.{map, Option, Some, None, option_map, refl, sym, ap, subst, ◌∙◌, arith}
use Rattle.std.specs.Prelude.{slice_get}
use Rattle.std.proofs.lemmas.Option.{none-some, same_Some, slice_get-map, slice_get_within}
use Rattle.limbo_stmt_values.specs.limbo_stating.Around.{Turn, Innermost}
use Rattle.limbo_heads.specs.declared.around.Turn as code_turn
use Rattle.limbo_heads.specs.Around.{view_turn}

less_or : (p n : ℕ) → p < n + 1 → (p < n) ⊎ (p ≡ n)
less_or p n h = grind arith

-- the code's loop or branch at a place
record InCode (ts : List code_turn.Turn) (u : ℕ) (w : Turn) : Type 0 where
  turn : code_turn.Turn
  there : slice_get ts u ≡ Some turn
  is : view_turn turn ≡ w

in_code : (ts : List code_turn.Turn) (u : ℕ) (w : Turn) → slice_get (map view_turn ts) u ≡ Some w → InCode ts u w
in_code ts u w h = go (slice_get ts u) refl (sym (slice_get-map view_turn ts u) ∙ h)
  where
    go : (o : Option code_turn.Turn) → slice_get ts u ≡ o → option_map view_turn o ≡ Some w → InCode ts u w
    go None e i = absurd (none-some w i)
    go (Some x) e i = record { turn = x; there = e; is = same_Some (view_turn x) w i }

-- that none before a place is such, said of those of the code
abbrev pub NoneBefore : List code_turn.Turn → (Turn → Type 0) → ℕ → Type 0
NoneBefore ts Is n = (u : ℕ) (w : code_turn.Turn) → u < n → slice_get ts u ≡ Some w → Is (view_turn w) → ⊥

module _ (ts : List code_turn.Turn) (Is : Turn → Type 0) where
  pub innermost_at : (n : ℕ) (t : code_turn.Turn) → NoneBefore ts Is n → slice_get ts n ≡ Some t → Is (view_turn t)
      → Innermost (map view_turn ts) Is n
  innermost_at n t none there is = record {
    turn = view_turn t;
    there = slice_get-map view_turn ts n ∙ ap (option_map view_turn) there;
    is = is;
    none_further_in = λ u w l h i.
        let x = in_code ts u w h in
        none u x.turn l x.there (subst Is (sym x.is) i);
  }

  pub none_at : (n : ℕ) → length ts ≤ n → NoneBefore ts Is n → (k : ℕ) → Innermost (map view_turn ts) Is k → ⊥
  none_at n l none k f =
      let x = in_code ts k f.turn f.there in
      let m : k < length ts = slice_get_within ts k x.turn x.there in
      none k x.turn (omega arith) x.there (subst Is (sym x.is) f.is)

  pub none_more : (n : ℕ) (t : code_turn.Turn) → NoneBefore ts Is n → slice_get ts n ≡ Some t → (Is (view_turn t) → ⊥)
      → NoneBefore ts Is (n + 1)
  none_more n t none there not u w l h is =
      elim (less_or u n l) [
        | inl m ↦ none u w m h is
        | inr m ↦
            let s : w ≡ t = same_Some w t (sym h ∙ ap (slice_get ts) m ∙ there) in
            not (subst (λ (z : code_turn.Turn). Is (view_turn z)) s is)
      ]
