-- Of numbers below one there are no more different ones than that.
use Rattle.std.proofs.Common.{◌≡◌, ℕ, zero, suc, ◌<◌, ◌≤◌, ◌⊎◌, List, [], ◌∷◌, length, arith, inl, inr}
use Rattle.value_moves.proofs.Changing.{low_or_high}

abbrev pub AllBelow : ℕ → List ℕ → Type 0
AllBelow n [] = Unit {0}
AllBelow n (b ∷ bs) = (b < n) × AllBelow n bs

abbrev pub IsApart : ℕ → List ℕ → Type 0
IsApart b [] = Unit {0}
IsApart b (c ∷ cs) = (b ≡ c → ⊥) × IsApart b cs

abbrev pub AreDistinct : List ℕ → Type 0
AreDistinct [] = Unit {0}
AreDistinct (b ∷ bs) = IsApart b bs × AreDistinct bs

-- Without the greatest number that may be among them.
record Fewer (n : ℕ) (bs : List ℕ) : Type 0 where
  rest : List ℕ
  long : length bs ≤ suc (length rest)
  all_below : AllBelow n rest
  distinct : AreDistinct rest
  apart : (b : ℕ) → IsApart b bs → IsApart b rest

others_below : (n b : ℕ) → n ≤ b → (bs : List ℕ) → b < suc n → AllBelow (suc n) bs → IsApart b bs → AllBelow n bs
others_below n b h [] l ls a = tt
others_below n b h (c ∷ cs) l (m, ls) (ne, a) = (go (low_or_high c n), others_below n b h cs l ls a)
  where
    go : (c < n) ⊎ (n ≤ c) → c < n
    go (inl k) = k
    go (inr k) = absurd (ne (omega (arith, h, l, m, k)))

fewer : (n : ℕ) (bs : List ℕ) → AllBelow (suc n) bs → AreDistinct bs → Fewer n bs
fewer n [] l d = record { rest = []; long = omega arith; all_below = tt; distinct = tt; apart = λ b a. tt }
fewer n (b ∷ bs) (l, ls) (a, d) = go (fewer n bs ls d) (low_or_high b n)
  where
    go : Fewer n bs → (b < n) ⊎ (n ≤ b) → Fewer n (b ∷ bs)
    go f (inl h) =
        let long = f.long in
        record {
          rest = b ∷ f.rest;
          long = omega (arith, long);
          all_below = (h, f.all_below);
          distinct = (f.apart b a, f.distinct);
          apart = λ c e. (e.0, f.apart c e.1);
        }
    go f (inr h) = record {
      rest = bs;
      long = omega arith;
      all_below = others_below n b h bs l ls a;
      distinct = d;
      apart = λ c e. e.1;
    }

pub not_more : (n : ℕ) (bs : List ℕ) → AllBelow n bs → AreDistinct bs → length bs ≤ n
not_more zero [] l d = omega arith
not_more zero (b ∷ bs) l d = let m = l.0 in absurd (omega (arith, m))
not_more (suc n) bs l d =
    let f = fewer n bs l d in
    let i = not_more n f.rest f.all_below f.distinct in
    let long = f.long in
    omega (arith, i, long)
