-- Numbers that are stored as words.
use Rattle.std.proofs.Common.{◌≡◌, ℕ, zero, suc, ℤ, pos, negsuc, ◌+◌, ◌/◌, ◌%◌, ◌*◌, ◌+ℤ◌, Bool, true, false, List, [], ◌∷◌, Option, Some, None, refl, sym, ap, ◌∙◌, arith, if◌then◌else◌}
use Rattle.std.specs.Prelude.{◌==◌, slice_get, slice_set}
use Rattle.limbo_values.specs.declared.number.Kind.TheVariants.{Byte, Big}
use Rattle.dis_meaning.specs.Words.{InBlock, InFrame, Word, Plain, Refer, Address, Access, Found, Wrong, Raises, ◌>>=◌}
use Rattle.dis_meaning.specs.Words.{type_check, or_wrong, at_least_zero, word_number, number_in, fits, stored, replaced}
use Rattle.dis_meaning.specs.Numbers.{with_byte, high_part, low_part, nth_number, number_at, with_number_at, joined}
use Rattle.dis_meaning.specs.Process.{Process}
use Rattle.dis_meaning.specs.Places.{Spot, Own, Data, Far, place_in}
use Rattle.dis_memory.specs.Blocks.{World}
use Rattle.dis_memory.specs.Places.{Memory, words_at, with_words_at, store, read_number, store_number}
use Rattle.dis_stores.specs.Storing.{rested, settled}
use Rattle.dis_results.specs.Bytes.{moved, word_with_byte}
use Rattle.dis_results.proofs.Again.{again, words_settled, put_settled, put_found}

-- ---- a byte

-- A word that begins at a byte.
begins : (n : ℕ) → word_number (pos (n / 4 * 4)) ≡ Found (n / 4)
begins n =
    let first : n / 4 * 4 % 4 ≡ 0 = omega arith in
    let same : n / 4 * 4 / 4 ≡ n / 4 = omega arith in
    ap (λ r. if r == 0 then Found (n / 4 * 4 / 4) else Wrong type_check) first ∙ ap Found same

-- The same place, by another byte.
moved_words : (x : World) (p : Process) (s : Spot) (at : ℤ) → words_at x p (moved s at) ≡ words_at x p s
moved_words x p (Own _) at = refl
moved_words x p (Data _) at = refl
moved_words x p (Far (InFrame n) _) at = refl
moved_words x p (Far (InBlock n) _) at = refl

moved_put : (x : World) (p : Process) (s : Spot) (at : ℤ) (ws : List Word) → with_words_at x p (moved s at) ws ≡ with_words_at x p s ws
moved_put x p (Own _) at ws = refl
moved_put x p (Data _) at ws = refl
moved_put x p (Far (InFrame n) _) at ws = refl
moved_put x p (Far (InBlock n) _) at ws = refl

moved_place : (s : Spot) (at : ℤ) → place_in (moved s at) ≡ at
moved_place (Own _) at = refl
moved_place (Data _) at = refl
moved_place (Far place _) at = refl

-- What is stored at another byte of the same place.
moved_access : (x : World) (p : Process) (s : Spot) (at : ℤ) (a : Access (List Word)) → (a >>= with_words_at x p (moved s at)) ≡ (a >>= with_words_at x p s)
moved_access x p s at (Found ws) = moved_put x p s at ws
moved_access x p s at (Wrong n) = refl
moved_access x p s at (Raises text) = refl

moved_store : (x : World) (p : Process) (s : Spot) (at : ℤ) (w : Word) (ws : List Word) → words_at x p s ≡ Found ws →
    store x p (moved s at) w ≡ (stored ws at w >>= with_words_at x p s)
moved_store x p s at w ws among =
    ap (λ a. a >>= λ words. stored words (place_in (moved s at)) w >>= with_words_at x p (moved s at)) (moved_words x p s at ∙ among)
    ∙ ap (λ at'. stored ws at' w >>= with_words_at x p (moved s at)) (moved_place s at)
    ∙ moved_access x p s at (stored ws at w)

-- A byte is the word in which it lies.
pub byte_stored : (x : World) (p : Process) (s : Spot) (ws : List Word) (b : ℕ) (r : ℤ × ℤ) → words_at x p s ≡ Found ws →
    word_with_byte ws (place_in s) b ≡ Found r → store_number Byte x p s (pos b) ≡ store x p (moved s r.0) (Plain r.1)
byte_stored x p s ws b r among made =
    ap (λ a. a >>= λ words. with_number_at Byte words (place_in s) (pos b) >>= with_words_at x p s) among
    ∙ at_byte (at_least_zero (place_in s)) made
  where
    in_word : (n : ℕ) (new : Word) → store x p (moved s (pos (n / 4 * 4))) new ≡ (replaced ws (n / 4) new >>= with_words_at x p s)
    in_word n new =
        moved_store x p s (pos (n / 4 * 4)) new ws among
        ∙ ap (λ a. a >>= (λ k. replaced ws k new) >>= with_words_at x p s) (begins n)

    with_old : (n : ℕ) (a : Access ℤ) → (a >>= λ old. Found (pos (n / 4 * 4), with_byte old (n % 4) b)) ≡ Found r →
        (a >>= (λ old. replaced ws (n / 4) (Plain (with_byte old (n % 4) b))) >>= with_words_at x p s) ≡ store x p (moved s r.0) (Plain r.1)
    with_old n (Found old) made =
        let is : (pos (n / 4 * 4), with_byte old (n % 4) b) ≡ r = cc in
        sym (in_word n (Plain (with_byte old (n % 4) b))) ∙ ap (λ r. store x p (moved s r.0) (Plain r.1)) is
    with_old n (Wrong m) made = absurd cc
    with_old n (Raises text) made = absurd cc

    at_byte : (a : Access ℕ) → (a >>= λ n. nth_number ws (n / 4) >>= λ old. Found (pos (n / 4 * 4), with_byte old (n % 4) b)) ≡ Found r →
        (a >>= (λ n. nth_number ws (n / 4) >>= λ old. replaced ws (n / 4) (Plain (with_byte old (n % 4) b))) >>= with_words_at x p s) ≡ store x p (moved s r.0) (Plain r.1)
    at_byte (Found n) made = with_old n (nth_number ws (n / 4)) made
    at_byte (Wrong m) made = absurd cc
    at_byte (Raises text) made = absurd cc

-- ---- a big

next_apart : {A : Type 0} (ws : List A) (k : ℕ) (v : A) → slice_get (slice_set ws k v) (suc k) ≡ slice_get ws (suc k)
next_apart [] k v = refl
next_apart (w ∷ ws) zero v = refl
next_apart (w ∷ ws) (suc k) v = next_apart ws k v

-- Where a number is read, one is stored.
number_replaced : (ws : List Word) (k : ℕ) (a v : ℤ) → nth_number ws k ≡ Found a → replaced ws k (Plain v) ≡ Found (slice_set ws k (Plain v))
number_replaced ws k a v e = go (slice_get ws k) refl e
  where
    go : (o : Option Word) → slice_get ws k ≡ o → (or_wrong type_check o >>= number_in) ≡ Found a → replaced ws k (Plain v) ≡ Found (slice_set ws k (Plain v))
    go None is e = absurd cc
    go (Some (Plain n)) is e = ap (λ o. or_wrong type_check o >>= λ old. if fits old (Plain v) then Found (slice_set ws k (Plain v)) else Wrong type_check) is
    go (Some (Refer r)) is e = absurd cc
    go (Some (Address place at)) is e = ap (λ o. or_wrong type_check o >>= λ old. if fits old (Plain v) then Found (slice_set ws k (Plain v)) else Wrong type_check) is

-- The two words of a big.
record TwoWords (x : World) (p : Process) (s : Spot) : Type 0 where
  words : List Word
  among : words_at x p s ≡ Found words
  k : ℕ
  number : word_number (place_in s) ≡ Found k
  first : (v : ℤ) → replaced words k (Plain v) ≡ Found (slice_set words k (Plain v))
  second : (v u : ℤ) → replaced (slice_set words k (Plain v)) (suc k) (Plain u) ≡ Found (slice_set (slice_set words k (Plain v)) (suc k) (Plain u))

two_words : (x : World) (p : Process) (s : Spot) (z : ℤ) → read_number Big x p s ≡ Found z → TwoWords x p s
two_words x p s z e = in_place (words_at x p s) refl e
  where
    seconds : (ws : List Word) → words_at x p s ≡ Found ws → (k : ℕ) → word_number (place_in s) ≡ Found k → (h : ℤ) → nth_number ws k ≡ Found h →
        (a : Access ℤ) → nth_number ws (suc k) ≡ a → (a >>= λ low. Found (joined h low)) ≡ Found z → TwoWords x p s
    seconds ws among k number h first (Found l) is e = record {
      words = ws;
      among = among;
      k = k;
      number = number;
      first = λ v. number_replaced ws k h v first;
      second = λ v u.
          number_replaced (slice_set ws k (Plain v)) (suc k) l u (ap (λ o. or_wrong type_check o >>= number_in) (next_apart ws k (Plain v)) ∙ is);
    }
    seconds ws among k number h first (Wrong n) is e = absurd cc
    seconds ws among k number h first (Raises text) is e = absurd cc

    firsts : (ws : List Word) → words_at x p s ≡ Found ws → (k : ℕ) → word_number (place_in s) ≡ Found k → (a : Access ℤ) → nth_number ws k ≡ a →
        (a >>= λ high. nth_number ws (suc k) >>= λ low. Found (joined high low)) ≡ Found z → TwoWords x p s
    firsts ws among k number (Found h) is e = seconds ws among k number h is (nth_number ws (suc k)) refl e
    firsts ws among k number (Wrong n) is e = absurd cc
    firsts ws among k number (Raises text) is e = absurd cc

    at_number : (ws : List Word) → words_at x p s ≡ Found ws → (a : Access ℕ) → word_number (place_in s) ≡ a →
        (a >>= λ k. nth_number ws k >>= λ high. nth_number ws (suc k) >>= λ low. Found (joined high low)) ≡ Found z → TwoWords x p s
    at_number ws among (Found k) is e = firsts ws among k is (nth_number ws k) refl e
    at_number ws among (Wrong n) is e = absurd cc
    at_number ws among (Raises text) is e = absurd cc

    in_place : (a : Access (List Word)) → words_at x p s ≡ a → (a >>= λ words. number_at Big words (place_in s)) ≡ Found z → TwoWords x p s
    in_place (Found ws) is e = at_number ws is (word_number (place_in s)) refl e
    in_place (Wrong n) is e = absurd cc
    in_place (Raises text) is e = absurd cc

next_number : (at : ℤ) (k : ℕ) → word_number at ≡ Found k → word_number (at +ℤ pos 4) ≡ Found (suc k)
next_number (pos n) k e = go (n % 4 == 0) refl e
  where
    go : (b : Bool) → (n % 4 == 0) ≡ b → (if b then Found (n / 4) else Wrong type_check) ≡ Found k → word_number (pos n +ℤ pos 4) ≡ Found (suc k)
    go true is e =
        let same : n / 4 ≡ k = cc in
        let rest : (n + 4) % 4 ≡ n % 4 = omega arith in
        let more : (n + 4) / 4 ≡ suc (n / 4) = omega arith in
        ap (λ r. if r == 0 then Found ((n + 4) / 4) else Wrong type_check) rest
        ∙ ap (λ b. if b then Found ((n + 4) / 4) else Wrong type_check) is
        ∙ ap Found more ∙ ap (λ k. Found (suc k)) same
    go false is e = absurd cc
next_number (negsuc n) k e = absurd cc

module _ (x : World) (p : Process) (s : Spot) (was z : ℤ) (read : read_number Big x p s ≡ Found was) where
  first_put : (v : ℤ) → rested (store x p s (Plain v)) ≡ rested (with_words_at x p s (slice_set (two_words x p s was read).words (two_words x p s was read).k (Plain v)))
  first_put v =
      let t = two_words x p s was read in
      ap (λ a. rested (a >>= λ words. stored words (place_in s) (Plain v) >>= with_words_at x p s)) t.among
      ∙ ap (λ a. rested (a >>= (λ k. replaced t.words k (Plain v)) >>= with_words_at x p s)) t.number
      ∙ ap (λ a. rested (a >>= with_words_at x p s)) (t.first v)

  -- The high word is stored where a big is read.
  pub high_found : (m : Memory) × (rested (store x p s (Plain (high_part z))) ≡ Found m)
  high_found =
      let t = two_words x p s was read in
      let f = put_found x p s (slice_set t.words t.k (Plain (high_part z))) t.words t.among in
      (f.0, first_put (high_part z) ∙ f.1)

  abbrev both_words : List Word
  both_words =
      let t = two_words x p s was read in slice_set (slice_set t.words t.k (Plain (high_part z))) (suc t.k) (Plain (low_part z))

  as_big : rested (store_number Big x p s z) ≡ rested (with_words_at x p s both_words)
  as_big =
      let t = two_words x p s was read in
      ap (λ a. rested (a >>= λ words. with_number_at Big words (place_in s) z >>= with_words_at x p s)) t.among
      ∙ ap (λ a. rested (a >>= (λ k. replaced t.words k (Plain (high_part z)) >>= λ after. replaced after (suc k) (Plain (low_part z))) >>= with_words_at x p s)) t.number
      ∙ ap (λ a. rested (a >>= (λ after. replaced after (suc t.k) (Plain (low_part z))) >>= with_words_at x p s)) (t.first (high_part z))
      ∙ ap (λ a. rested (a >>= with_words_at x p s)) (t.second (high_part z) (low_part z))

  pub big_found : (m : Memory) × (rested (store_number Big x p s z) ≡ Found m)
  big_found =
      let t = two_words x p s was read in
      let f = put_found x p s both_words t.words t.among in
      (f.0, as_big ∙ f.1)

  -- The low word behind it makes the big.
  pub low_then : (y : World) (q : Process) (m : Memory) → rested (store x p s (Plain (high_part z))) ≡ Found m → y ≡ m.world → settled q ≡ m.process →
      rested (store y q (moved s (place_in s +ℤ pos 4)) (Plain (low_part z))) ≡ rested (store_number Big x p s z)
  low_then y q m e world process =
      let t = two_words x p s was read in
      let ws = slice_set t.words t.k (Plain (high_part z)) in
      let a = again x p s ws t.words m t.among (sym (first_put (high_part z)) ∙ e) in
      let at = place_in s +ℤ pos 4 in
      let among = words_settled y q s ∙ ap (λ q. words_at y q s) process ∙ ap (λ y. words_at y m.process s) world ∙ a.words in
      ap rested (moved_store y q s at (Plain (low_part z)) ws among)
      ∙ ap (λ a. rested (a >>= (λ k. replaced ws k (Plain (low_part z))) >>= with_words_at y q s)) (next_number (place_in s) t.k t.number)
      ∙ ap (λ a. rested (a >>= with_words_at y q s)) (t.second (high_part z) (low_part z))
      ∙ put_settled y q s both_words ∙ ap (λ q. rested (with_words_at y q s both_words)) process
      ∙ ap (λ y. rested (with_words_at y m.process s both_words)) world ∙ a.back both_words ∙ sym as_big

-- Where no big is read, none is stored.
pub big_wrong : (x : World) (p : Process) (s : Spot) (z : ℤ) (n : ℕ) → read_number Big x p s ≡ Wrong n → store_number Big x p s z ≡ Wrong n
big_wrong x p s z n e = in_place (words_at x p s) e
  where
    word_wrong : (ws : List Word) (k : ℕ) (v : ℤ) (o : Option Word) → slice_get ws k ≡ o → (or_wrong type_check o >>= number_in) ≡ Wrong n →
        (or_wrong type_check o >>= λ old. if fits old (Plain v) then Found (slice_set ws k (Plain v)) else Wrong type_check) ≡ Wrong n
    word_wrong ws k v None is e = let same : type_check ≡ n = cc in ap Wrong same
    word_wrong ws k v (Some (Plain a)) is e = absurd cc
    word_wrong ws k v (Some (Refer r)) is e = let same : type_check ≡ n = cc in ap Wrong same
    word_wrong ws k v (Some (Address place at)) is e = absurd cc

    seconds : (ws : List Word) (k : ℕ) (h : ℤ) → nth_number ws k ≡ Found h → (a : Access ℤ) → nth_number ws (suc k) ≡ a → (a >>= λ low. Found (joined h low)) ≡ Wrong n →
        (replaced ws k (Plain (high_part z)) >>= (λ after. replaced after (suc k) (Plain (low_part z))) >>= with_words_at x p s) ≡ Wrong n
    seconds ws k h first (Found l) is e = absurd cc
    seconds ws k h first (Wrong m) is e =
        let same : m ≡ n = cc in
        let after = slice_set ws k (Plain (high_part z)) in
        ap (λ a. a >>= (λ after. replaced after (suc k) (Plain (low_part z))) >>= with_words_at x p s) (number_replaced ws k h (high_part z) first)
        ∙ ap (λ a. a >>= with_words_at x p s)
        (word_wrong after (suc k) (low_part z) (slice_get after (suc k)) refl
        (ap (λ o. or_wrong type_check o >>= number_in) (next_apart ws k (Plain (high_part z))) ∙ is ∙ ap Wrong same))
    seconds ws k h first (Raises text) is e = absurd cc

    firsts : (ws : List Word) (k : ℕ) (a : Access ℤ) → nth_number ws k ≡ a → (a >>= λ high. nth_number ws (suc k) >>= λ low. Found (joined high low)) ≡ Wrong n →
        (replaced ws k (Plain (high_part z)) >>= (λ after. replaced after (suc k) (Plain (low_part z))) >>= with_words_at x p s) ≡ Wrong n
    firsts ws k (Found h) is e = seconds ws k h is (nth_number ws (suc k)) refl e
    firsts ws k (Wrong m) is e =
        let same : m ≡ n = cc in
        ap (λ a. a >>= (λ after. replaced after (suc k) (Plain (low_part z))) >>= with_words_at x p s)
        (word_wrong ws k (high_part z) (slice_get ws k) refl (is ∙ ap Wrong same))
    firsts ws k (Raises text) is e = absurd cc

    at_number : (ws : List Word) (a : Access ℕ) → (a >>= λ k. nth_number ws k >>= λ high. nth_number ws (suc k) >>= λ low. Found (joined high low)) ≡ Wrong n →
        (a >>= (λ k. replaced ws k (Plain (high_part z)) >>= λ after. replaced after (suc k) (Plain (low_part z))) >>= with_words_at x p s) ≡ Wrong n
    at_number ws (Found k) e = firsts ws k (nth_number ws k) refl e
    at_number ws (Wrong m) e = let same : m ≡ n = cc in ap Wrong same
    at_number ws (Raises text) e = absurd cc

    in_place : (a : Access (List Word)) → (a >>= λ words. number_at Big words (place_in s)) ≡ Wrong n →
        (a >>= λ words. with_number_at Big words (place_in s) z >>= with_words_at x p s) ≡ Wrong n
    in_place (Found ws) e = at_number ws (word_number (place_in s)) e
    in_place (Wrong m) e = let same : m ≡ n = cc in ap Wrong same
    in_place (Raises text) e = absurd cc
