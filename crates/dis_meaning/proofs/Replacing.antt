-- A number is stored exactly where one is read.
use Rattle.std.proofs.Common.{◌≡◌, ℕ, suc, ℤ, pos, ◌/◌, ◌%◌, List, Option, Some, None, refl, subst, arith, if◌then◌else◌}
use Rattle.std.specs.Prelude.{slice_get, slice_set, slice_index, unsigned_abs}
use Rattle.limbo_values.specs.declared.number.Kind.TheVariants.{Byte, Int, Big}
use Rattle.dis_meaning.specs.Words.{Word, Plain, Refer, Address, Access, Found, Wrong, Raises, ◌>>=◌, type_check, or_wrong, at_least_zero, number_in, word_number, fits, replaced}
use Rattle.dis_meaning.specs.Numbers.{bytes_of, with_byte, joined, high_part, low_part, nth_number}
use Rattle.dis_meaning.specs.Laws.{ComeAlike, NumbersAreReplaced}
use Rattle.dis_meaning.proofs.ReadBack.{Sets, sets, read_elsewhere}

-- One word.
module _ (words : List Word) (k : ℕ) (z : ℤ) where
  one_word : (o : Option Word) →
      ComeAlike (or_wrong type_check o >>= number_in) (or_wrong type_check o >>= λ old. if fits old (Plain z) then Found (slice_set words k (Plain z)) else Wrong type_check)
  one_word None = refl
  one_word (Some (Plain n)) = tt
  one_word (Some (Refer r)) = refl
  one_word (Some (Address place at)) = tt

  word_alike : ComeAlike (nth_number words k) (replaced words k (Plain z))
  word_alike = one_word (slice_get words k)

-- What is done with each doesn't matter where it goes on.
alike_then : {S T U V : Type 0} (a : Access S) (b : Access T) (f : S → Access U) (g : T → Access V) → ComeAlike a b →
    ((s : S) (t : T) → a ≡ Found s → b ≡ Found t → ComeAlike (f s) (g t)) → ComeAlike (a >>= f) (b >>= g)
alike_then (Found s) (Found t) f g h on = on s t refl refl
alike_then (Found s) (Wrong m) f g h on = absurd h
alike_then (Found s) (Raises text) f g h on = absurd h
alike_then (Wrong n) (Found t) f g h on = absurd h
alike_then (Wrong n) (Wrong m) f g h on = h
alike_then (Wrong n) (Raises text) f g h on = absurd h
alike_then (Raises text) (Found t) f g h on = absurd h
alike_then (Raises text) (Wrong m) f g h on = absurd h
alike_then (Raises text) (Raises other) f g h on = h

module _ (words : List Word) (z : ℤ) where
  int_alike : (a : Access ℕ) → ComeAlike (a >>= (λ k. or_wrong type_check (slice_get words k)) >>= number_in) (a >>= λ k. replaced words k (Plain z))
  int_alike (Found k) = word_alike words k z
  int_alike (Wrong n) = refl
  int_alike (Raises text) = refl

  in_word : (n : ℕ) (a : Access ℤ) → nth_number words (n / 4) ≡ a →
      ComeAlike (a >>= λ w. Found (pos (slice_index (bytes_of w) (n % 4)))) (a >>= λ old. replaced words (n / 4) (Plain (with_byte old (n % 4) (unsigned_abs z))))
  in_word n (Found old) e = by_word (replaced words (n / 4) (Plain (with_byte old (n % 4) (unsigned_abs z)))) (subst (λ a. ComeAlike a (replaced words (n / 4) (Plain (with_byte old (n % 4) (unsigned_abs z))))) e (word_alike words (n / 4) _))
    where
      by_word : (b : Access (List Word)) → ComeAlike (Found old) b → ComeAlike (Found (pos (slice_index (bytes_of old) (n % 4)))) b
      by_word (Found after) h = tt
      by_word (Wrong m) h = absurd h
      by_word (Raises text) h = absurd h
  in_word n (Wrong m) e = refl
  in_word n (Raises text) e = refl

  byte_alike : (a : Access ℕ) → ComeAlike (a >>= λ n. nth_number words (n / 4) >>= λ w. Found (pos (slice_index (bytes_of w) (n % 4))))
      (a >>= λ n. nth_number words (n / 4) >>= λ old. replaced words (n / 4) (Plain (with_byte old (n % 4) (unsigned_abs z))))
  byte_alike (Found n) = in_word n (nth_number words (n / 4)) refl
  byte_alike (Wrong m) = refl
  byte_alike (Raises text) = refl

  -- The second word of a big, behind one that was replaced.
  low_alike : (k : ℕ) (mid : List Word) (high : ℤ) → replaced words k (Plain (high_part z)) ≡ Found mid →
      ComeAlike (nth_number words (suc k) >>= λ low. Found (joined high low)) (replaced mid (suc k) (Plain (low_part z)))
  low_alike k mid high e = by_low (nth_number words (suc k)) (replaced mid (suc k) (Plain (low_part z)))
      (subst (λ a. ComeAlike a (replaced mid (suc k) (Plain (low_part z)))) same (word_alike mid (suc k) (low_part z)))
    where
      put : Sets words mid k (Plain (high_part z))
      put = sets words mid k (Plain (high_part z)) e

      same : nth_number mid (suc k) ≡ nth_number words (suc k)
      same = read_elsewhere words mid k (suc k) (Plain (high_part z)) put (λ e. omega (arith, e))

      by_low : (a : Access ℤ) (b : Access (List Word)) → ComeAlike a b → ComeAlike (a >>= λ low. Found (joined high low)) b
      by_low (Found low) (Found after) h = tt
      by_low (Found low) (Wrong m) h = absurd h
      by_low (Found low) (Raises text) h = absurd h
      by_low (Wrong n) (Found after) h = absurd h
      by_low (Wrong n) (Wrong m) h = h
      by_low (Wrong n) (Raises text) h = absurd h
      by_low (Raises text) (Found after) h = absurd h
      by_low (Raises text) (Wrong m) h = absurd h
      by_low (Raises text) (Raises other) h = h

  big_alike : (a : Access ℕ) → ComeAlike (a >>= λ k. nth_number words k >>= λ high. nth_number words (suc k) >>= λ low. Found (joined high low))
      (a >>= λ k. replaced words k (Plain (high_part z)) >>= λ mid. replaced mid (suc k) (Plain (low_part z)))
  big_alike (Found k) =
      alike_then (nth_number words k) (replaced words k (Plain (high_part z))) _ _ (word_alike words k (high_part z)) (λ high mid h e. low_alike k mid high e)
  big_alike (Wrong n) = refl
  big_alike (Raises text) = refl

pub numbers_are_replaced : NumbersAreReplaced
numbers_are_replaced Byte words at z = byte_alike words z (at_least_zero at)
numbers_are_replaced Int words at z = int_alike words z (word_number at)
numbers_are_replaced Big words at z = big_alike words z (word_number at)
