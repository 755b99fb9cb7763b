-- Words that go over others, word by word.
use Rattle.std.proofs.Common.{◌≡◌, ℕ, zero, suc, ◌<◌, Bool, true, false, List, [], ◌∷◌, Option, Some, None, refl, ap, ◌∙◌, arith, if◌then◌else◌}
use Rattle.std.specs.Prelude.{slice_get, slice_set}
use Rattle.dis_meaning.specs.Words.{Word, Found, Wrong, ◌>>=◌, type_check, or_wrong, fits}
use Rattle.dis_memory.specs.Copies.{put}
use Rattle.dis_copies.specs.Spans.{meets, over}

-- A word that is set after another stays what it was before it.
get_set_past : {A : Type 0} (ws : List A) (k j : ℕ) (v : A) → k < j → slice_get (slice_set ws k v) j ≡ slice_get ws j
get_set_past [] k j v lt = refl
get_set_past (w ∷ ws) zero (suc j) v lt = refl
get_set_past (w ∷ ws) zero zero v lt = absurd (omega (arith, lt))
get_set_past (w ∷ ws) (suc k) (suc j) v lt = get_set_past ws k j v (omega (arith, lt))
get_set_past (w ∷ ws) (suc k) zero v lt = absurd (omega (arith, lt))

-- What later words meet, they meet whatever went before.
pub meets_past : (ws : List Word) (k j : ℕ) (v : Word) (vs : List Word) → k < j → meets (slice_set ws k v) j vs ≡ meets ws j vs
meets_past ws k j v [] lt = refl
meets_past ws k j v (u ∷ us) lt =
    ap (λ o. or_wrong type_check o >>= λ old. if fits old u then meets (slice_set ws k v) (suc j) us else Wrong type_check) (get_set_past ws k j v lt)
    ∙ ap (λ m. or_wrong type_check (slice_get ws j) >>= λ old. if fits old u then m else Wrong type_check) (meets_past ws k (suc j) v us (omega (arith, lt)))

-- Where each meets one of its kind, they are put; where one doesn't, that is the fault.
pub put_over : (ws : List Word) (from : ℕ) (vs : List Word) → put ws from vs ≡ (meets ws from vs >>= λ u. Found (over ws from vs))
put_over ws from [] = refl
put_over ws from (v ∷ vs) = go (slice_get ws from) (put_over (slice_set ws from v) (suc from) vs)
  where
    with_old : (b : Bool) → put (slice_set ws from v) (suc from) vs ≡ (meets (slice_set ws from v) (suc from) vs >>= λ u. Found (over (slice_set ws from v) (suc from) vs)) →
        ((if b then Found (slice_set ws from v) else Wrong type_check) >>= λ after. put after (suc from) vs)
        ≡ ((if b then meets ws (suc from) vs else Wrong type_check) >>= λ u. Found (over (slice_set ws from v) (suc from) vs))
    with_old true more =
        more
        ∙ ap (λ m. m >>= λ u. Found (over (slice_set ws from v) (suc from) vs)) (meets_past ws from (suc from) v vs (omega arith))
    with_old false more = refl

    go : (o : Option Word) → put (slice_set ws from v) (suc from) vs ≡ (meets (slice_set ws from v) (suc from) vs >>= λ u. Found (over (slice_set ws from v) (suc from) vs)) →
        (or_wrong type_check o >>= (λ old. if fits old v then Found (slice_set ws from v) else Wrong type_check) >>= λ after. put after (suc from) vs)
        ≡ (or_wrong type_check o >>= (λ old. if fits old v then meets ws (suc from) vs else Wrong type_check) >>= λ u. Found (over (slice_set ws from v) (suc from) vs))
    go None more = refl
    go (Some old) more = with_old (fits old v) more

-- The first of them, and the others.
pub record First (ws : List Word) (from : ℕ) (v : Word) (vs : List Word) : Type 0 where
  pub old : Word
  pub there : slice_get ws from ≡ Some old
  pub fits : fits old v ≡ true
  pub others : meets ws (suc from) vs ≡ Found tt

pub first_met : (ws : List Word) (from : ℕ) (v : Word) (vs : List Word) → meets ws from (v ∷ vs) ≡ Found tt → First ws from v vs
first_met ws from v vs e = go (slice_get ws from) refl e
  where
    with_old : (old : Word) → slice_get ws from ≡ Some old → (b : Bool) → fits old v ≡ b → (if b then meets ws (suc from) vs else Wrong type_check) ≡ Found tt → First ws from v vs
    with_old old there true fit e = record { old = old; there = there; fits = fit; others = e }
    with_old old there false fit e = absurd cc

    go : (o : Option Word) → slice_get ws from ≡ o → (or_wrong type_check o >>= λ old. if fits old v then meets ws (suc from) vs else Wrong type_check) ≡ Found tt → First ws from v vs
    go None there e = absurd cc
    go (Some old) there e = with_old old there (fits old v) refl e
