-- Words put in place of others, and what stands then.
use Rattle.std.proofs.Common.{◌≡◌, ℕ, zero, suc, ◌+◌, ◌<◌, ◌≤◌, ◌⊎◌, Bool, true, List, [], ◌∷◌, length}
use Rattle.std.proofs.Common.{Option, Some, refl, ap, ◌∙◌, arith, inl, inr, if◌then◌else◌}
use Rattle.std.specs.Prelude.{slice_get, slice_set}
use Rattle.value_words.proofs.Rows.{set_other, set_same}
use Rattle.dis_meaning.specs.Words.{Word, Plain, Refer, Address, Access, Found, Wrong, ◌>>=◌, type_check, or_wrong, fits, replaced}
use Rattle.dis_memory.specs.Copies.{put}

pub set_long : {A : Type 0} (xs : List A) (k : ℕ) (y : A) → length (slice_set xs k y) ≡ length xs
set_long [] zero y = refl
set_long [] (suc k) y = refl
set_long (x ∷ xs) zero y = refl
set_long (x ∷ xs) (suc k) y = ap suc (set_long xs k y)

-- one word in place of one of its kind
pub replaced_is : (words : List Word) (k : ℕ) (old new : Word) → slice_get words k ≡ Some old → fits old new ≡ true
    → replaced words k new ≡ Found (slice_set words k new)
replaced_is words k old new e f =
    ap (λ (o : Option Word). or_wrong type_check o >>= λ u. if fits u new then Found (slice_set words k new) else Wrong type_check) e
    ∙ ap (λ (b : Bool). if b then Found (slice_set words k new) else Wrong type_check) f

-- A word that takes another refers exactly where that does.
pub fits_refer : (old : Word) (r : Option ℕ) → fits old (Refer r) ≡ true → (s : Option ℕ) × (old ≡ Refer s)
fits_refer (Plain z) r e = absurd cc
fits_refer (Refer s) r e = (s, refl)
fits_refer (Address p at) r e = absurd cc

pub refer_fits : (s : Option ℕ) (new : Word) → fits (Refer s) new ≡ true → (r : Option ℕ) × (new ≡ Refer r)
refer_fits s (Plain z) e = absurd cc
refer_fits s (Refer r) e = (r, refl)
refer_fits s (Address p at) e = absurd cc

-- There stands a word that takes this one.
pub record Takes (words : List Word) (k : ℕ) (new : Word) : Type 0 where
  pub old : Word
  pub stood : slice_get words k ≡ Some old
  pub takes : fits old new ≡ true

-- These words stand from one on, and all others as they stood.
pub record IsPut (target others : List Word) (k : ℕ) (vs : List Word) : Type 0 where
  pub many : length others ≡ length target
  pub there : (j : ℕ) (v : Word) → slice_get vs j ≡ Some v → slice_get others (k + j) ≡ Some v
  pub rest : (w : ℕ) → (w < k) ⊎ (k + length vs ≤ w) → slice_get others w ≡ slice_get target w

pub put_words : (vs : List Word) (target : List Word) (k : ℕ) → ((j : ℕ) (v : Word) → slice_get vs j ≡ Some v → Takes target (k + j) v)
    → (others : List Word) × (put target k vs ≡ Found others) × IsPut target others k vs
put_words [] target k h = (target, refl, record { many = refl; there = λ j v e. absurd cc; rest = λ w l. refl })
put_words (v ∷ vs) target k h =
    let f = h 0 v refl in
    let at : slice_get target k ≡ Some f.old = let e : k ≡ k + 0 = omega arith in ap (slice_get target) e ∙ f.stood in
    let mid = slice_set target k v in
    let i = put_words vs mid (suc k) (later mid refl) in
    let p = i.2 in (
      i.0,
      ap (λ (a : Access (List Word)). a >>= λ after. put after (suc k) vs) (replaced_is target k f.old v at f.takes) ∙ i.1,
      record {
        many = p.many ∙ set_long target k v;
        there = there i.0 p at;
        rest = λ w l. p.rest w (further w l) ∙ set_other target k w v (λ e. apart w l e);
      },
    )
  where
    later : (mid : List Word) → mid ≡ slice_set target k v → (j : ℕ) (u : Word) → slice_get vs j ≡ Some u → Takes mid (suc k + j) u
    later mid s j u e =
        let f = h (suc j) u e in
        let same : suc k + j ≡ k + suc j = omega arith in
        record {
          old = f.old;
          stood = ap (λ (ws : List Word). slice_get ws (suc k + j)) s
              ∙ set_other target k (suc k + j) v (λ d. absurd (omega (arith, d))) ∙ ap (slice_get target) same ∙ f.stood;
          takes = f.takes;
        }

    there : (others : List Word) → IsPut (slice_set target k v) others (suc k) vs → {old : Word} → slice_get target k ≡ Some old
        → (j : ℕ) (u : Word) → slice_get (v ∷ vs) j ≡ Some u → slice_get others (k + j) ≡ Some u
    there others p {old} at zero u e =
        let g : v ≡ u = cc in
        let same : k + 0 ≡ k = omega arith in
        ap (slice_get others) same ∙ p.rest k (inl (omega arith)) ∙ set_same target k v old at ∙ ap Some g
    there others p at (suc j) u e = let same : k + suc j ≡ suc k + j = omega arith in ap (slice_get others) same ∙ p.there j u e

    further : (w : ℕ) → (w < k) ⊎ (k + suc (length vs) ≤ w) → (w < suc k) ⊎ (suc k + length vs ≤ w)
    further w (inl l) = inl (omega (arith, l))
    further w (inr l) = inr (omega (arith, l))

    apart : (w : ℕ) → (w < k) ⊎ (k + suc (length vs) ≤ w) → w ≡ k → ⊥
    apart w (inl l) e = omega (arith, l, e)
    apart w (inr l) e = omega (arith, l, e)
