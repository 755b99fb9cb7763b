-- The word in which a byte lies.
use Rattle.std.proofs.Common.{◌≡◌, ℤ, pos, negsuc, ◌/◌, ◌%◌, Bool, true, false, List, if◌then◌else◌}
use Rattle.std.specs.Prelude.{slice_get, ◌==◌}
use Rattle.dis_meaning.specs.Words.{Word, Access, Found, Wrong, ◌>>=◌, type_check, or_wrong, at_least_zero, word_at}
use Rattle.dis_meaning.specs.World.{World}
use Rattle.dis_meaning.specs.Process.{Process}
use Rattle.dis_meaning.specs.Places.{Spot, place_in, words_at, read, around}

-- Where a word begins with a byte, it is the one in which the byte lies.
in_words : (words : List Word) (at : ℤ) (w : Word) → word_at words at ≡ Found w → (at_least_zero at >>= λ n. or_wrong type_check (slice_get words (n / 4))) ≡ Found w
in_words words (pos n) w e = go (n % 4 == 0) e
  where
    go : (b : Bool) → ((if b then Found (n / 4) else Wrong type_check) >>= λ k. or_wrong type_check (slice_get words k)) ≡ Found w → or_wrong type_check (slice_get words (n / 4)) ≡ Found w
    go true e = e
    go false e = absurd cc
in_words words (negsuc n) w e = absurd cc

pub around_read : (x : World) (p : Process) (s : Spot) (w : Word) → read x p s ≡ Found w → around x p s ≡ Found w
around_read x p s w e = go (words_at x p s) e
  where
    go : (a : Access (List Word)) → (a >>= λ words. word_at words (place_in s)) ≡ Found w → (a >>= λ words. at_least_zero (place_in s) >>= λ n. or_wrong type_check (slice_get words (n / 4))) ≡ Found w
    go (Found words) e = in_words words (place_in s) w e
    go _ e = absurd cc
