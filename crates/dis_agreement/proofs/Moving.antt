-- A move of plain words is the same on both machines.
use Rattle.std.proofs.Common.{◌≡◌, ℕ, zero, suc, ℤ, Bool, true, false, List, [], ◌∷◌, refl, ap, ◌∙◌, if◌then◌else◌}
use Rattle.std.specs.Prelude.{pos, negsuc, slice_get, ◌/◌, ◌%◌, ◌==◌, ◌&&◌}
use Rattle.dis_meaning.specs.Words.{Word, Found, Wrong, ◌>>=◌, type_check, or_wrong, at_least_zero, word_number, plain}
use Rattle.dis_meaning.specs.Words.{replaced}
use Rattle.dis_meaning.specs.Step.{plains, all_replaced}
use Rattle.dis_memory.specs.Copies.{plain_words, put, moved, is_whole, bytes_from, put_bytes}
use Rattle.dis_agreement.proofs.Following.{Follows, found, wrong, Same, finds, itself, on, Calm, calm_then, calm_or}
use Rattle.dis_agreement.proofs.Formatting.{calm_plain}

-- A byte that begins a word, and the number of the word.
pub record Begins (k n : ℕ) : Type 0 where
  pub whole : is_whole n ≡ true
  pub word : n / 4 ≡ k

pub begins : (n k : ℕ) → word_number (pos n) ≡ Found k → Begins k n
begins n k e = go (n % 4 == 0) refl e
  where
    go : (b : Bool) → is_whole n ≡ b → (if b then Found (n / 4) else Wrong type_check) ≡ Found k → Begins k n
    go true w f = record { whole = w; word = (let z : n / 4 ≡ k = cc in z) }
    go false w f = absurd cc

pub whole_follows : (at : ℤ) → Follows Begins (word_number at) (at_least_zero at)
whole_follows (negsuc n) = wrong type_check _
whole_follows (pos n) = go (n % 4 == 0) refl
  where
    go : (b : Bool) → is_whole n ≡ b → Follows Begins (if b then Found (n / 4) else Wrong type_check) (Found n)
    go true w = found (n / 4) n (record { whole = w; word = refl })
    go false w = wrong type_check _

pub calm_plains : (ws : List Word) (from count : ℕ) → Calm (plains ws from count)
calm_plains ws from zero = tt
calm_plains ws from (suc n) =
    calm_then (or_wrong type_check (slice_get ws from)) _ (calm_or type_check (slice_get ws from)) (λ w.
    calm_then (plain w) _ (calm_plain w) (λ v. calm_then (plains ws (suc from) n) _ (calm_plains ws (suc from) n) (λ vs. tt)))

plains_same : (ws : List Word) (from count : ℕ) → plain_words ws from count ≡ plains ws from count
plains_same ws from zero = refl
plains_same ws from (suc n) =
    ap (λ r. or_wrong type_check (slice_get ws from) >>= λ w. plain w >>= λ v. r >>= λ vs. Found (v ∷ vs)) (plains_same ws (suc from) n)

pub put_same : (ws : List Word) (k : ℕ) (vs : List Word) → Same (all_replaced ws k vs) (put ws k vs)
put_same ws k [] = finds ws
put_same ws k (v ∷ vs) = on _ _ (itself (replaced ws k v)) (λ after e f. put_same after (suc k) vs)

all_whole : {T : Type 0} (a b c : Bool) (s t : T) → a ≡ true → b ≡ true → c ≡ true → (if a && b && c then s else t) ≡ s
all_whole true true true s t e f g = refl
all_whole true true false s t e f g = absurd cc
all_whole true false c s t e f g = absurd cc
all_whole false b c s t e f g = absurd cc

-- So many words that are plain come to others.
pub moved_is : (source target vs : List Word) (from to count k j n : ℕ) → Begins k from → Begins j to → Begins n count
    → plains source k n ≡ Found vs → moved source from target to count ≡ put target j vs
moved_is source target vs from to count k j n a b c e =
    all_whole (is_whole from) (is_whole to) (is_whole count) (plain_words source (from / 4) (count / 4) >>= put target (to / 4))
    (bytes_from source from count >>= put_bytes target to) a.whole b.whole c.whole
    ∙ (ap (λ k. plain_words source k (count / 4) >>= put target (to / 4)) a.word
    ∙ (ap (λ n. plain_words source k n >>= put target (to / 4)) c.word
    ∙ (ap (λ j. plain_words source k n >>= put target j) b.word
    ∙ (ap (λ u. u >>= put target j) (plains_same source k n) ∙ ap (λ u. u >>= put target j) e))))
