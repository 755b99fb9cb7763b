-- Counts move with what is stored.
use Rattle.std.proofs.Common.{◌≡◌, ℕ, zero, suc, ◌+◌, ℤ, Bool, true, false, List, [], ◌∷◌, Option, Some, None, refl, ap, ◌∙◌, subst, arith, if◌then◌else◌}
use Rattle.std.specs.Prelude.{slice_get, slice_set}
use Rattle.dis_meaning.specs.Words.{Word, Access, Found, Wrong, Raises, ◌>>=◌, type_check, or_wrong, word_number, fits, replaced}
use Rattle.dis_meaning.specs.Counts.{refers, in_words}
use Rattle.dis_meaning.specs.Laws.{Replaced, StoresCount}

set_counts : (n : ℕ) (words : List Word) (k : ℕ) (old new : Word) → slice_get words k ≡ Some old → in_words n (slice_set words k new) + refers n old ≡ in_words n words + refers n new
set_counts n [] k old new e = absurd cc
set_counts n (w ∷ ws) zero old new e =
    let same : w ≡ old = cc in
    subst (λ o. refers n new + in_words n ws + refers n o ≡ refers n w + in_words n ws + refers n new) same (omega arith)
set_counts n (w ∷ ws) (suc k) old new e = let a = set_counts n ws k old new e in omega (arith, a)

module _ (words after : List Word) (at : ℤ) (new : Word) where
  by_fit : (k : ℕ) (old : Word) (b : Bool) → word_number at ≡ Found k → slice_get words k ≡ Some old → (if b then Found (slice_set words k new) else Wrong type_check) ≡ Found after → Replaced words after at new
  by_fit k old true at_k there e =
      let same : slice_set words k new ≡ after = cc in
      record {
        old = old;
        stood = ap (λ a. a >>= λ k. or_wrong type_check (slice_get words k)) at_k ∙ ap (or_wrong type_check) there;
        counts = λ n. subst (λ l. in_words n l + refers n old ≡ in_words n words + refers n new) same (set_counts n words k old new there);
      }
  by_fit k old false at_k there e = absurd cc

  by_word : (k : ℕ) (o : Option Word) → word_number at ≡ Found k → slice_get words k ≡ o → (or_wrong type_check o >>= λ old. if fits old new then Found (slice_set words k new) else Wrong type_check) ≡ Found after → Replaced words after at new
  by_word k None at_k there e = absurd cc
  by_word k (Some old) at_k there e = by_fit k old (fits old new) at_k there e

  by_number : (a : Access ℕ) → word_number at ≡ a → (a >>= λ k. replaced words k new) ≡ Found after → Replaced words after at new
  by_number (Wrong n) at_k e = absurd cc
  by_number (Raises text) at_k e = absurd cc
  by_number (Found k) at_k e = by_word k (slice_get words k) at_k refl e

pub stores_count : StoresCount
stores_count words after at new e = by_number words after at new (word_number at) refl e
