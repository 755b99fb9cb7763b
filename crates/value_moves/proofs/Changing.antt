-- Single words and numbers that are stored change nothing else.
use Rattle.std.proofs.Common.{◌≡◌, ℕ, zero, suc, ◌+◌, ◌-◌, ◌*◌, ◌<◌, ◌≤◌, ◌⊎◌, ℤ, pos, negsuc, ◌/◌, ◌%◌, true, List, [], ◌∷◌, length}
use Rattle.std.proofs.Common.{Option, Some, None, refl, sym, ap, ◌∙◌, subst, arith, inl, inr, if◌then◌else◌}
use Rattle.std.specs.Prelude.{◌==◌, slice_get, slice_set, unsigned_abs}
use Rattle.std.proofs.lemmas.Int.{ints}
use Rattle.limbo_values.specs.declared.number.Kind.{Kind}
use Rattle.limbo_values.specs.declared.number.Kind.TheVariants as kind
use Rattle.limbo_values.specs.Numbers.{InRange}
use Rattle.limbo_values.proofs.Ranges.{always}
use Rattle.dis_meaning.specs.Words.{Word, Plain, Refer, Address, Access, Found, Wrong, Raises, ◌>>=◌, type_check}
use Rattle.dis_meaning.specs.Words.{word_at, fits, replaced, stored}
use Rattle.dis_meaning.specs.Numbers.{with_number_at, number_at, high_part, low_part}
use Rattle.dis_meaning.proofs.ReadBack.{read_back}
use Rattle.dis_memory.specs.Copies.{put}
use Rattle.value_words.specs.Contents.{content_in, AreInRange}
use Rattle.value_words.proofs.Bytes.{Reads, word_found, word_there, int_found, big_found, byte_found}
use Rattle.value_words.proofs.Rows.{is_there, set_same}
use Rattle.value_moves.specs.Changing.{Changes, NumberStored, WordsChange}
use Rattle.value_moves.proofs.Putting.{replaced_is, fits_refer, refer_fits, Takes, IsPut, put_words}
use Rattle.value_moves.proofs.Storing.{BytesPut, one_byte}

pub low_or_high : (a b : ℕ) → (a < b) ⊎ (b ≤ a)
low_or_high a zero = inr (omega arith)
low_or_high zero (suc b) = inl (omega arith)
low_or_high (suc a) (suc b) = go (low_or_high a b)
  where
    go : (a < b) ⊎ (b ≤ a) → (suc a < suc b) ⊎ (suc b ≤ suc a)
    go (inl l) = inl (omega (arith, l))
    go (inr l) = inr (omega (arith, l))

-- Whether a word is one of so many from one on.
pub data IsAmong (k size w : ℕ) : Type 0 where
  is_within : (j : ℕ) → k + j ≡ w → j < size → IsAmong k size w
  is_else : (w < k) ⊎ (k + size ≤ w) → IsAmong k size w

pub among : (k size w : ℕ) → IsAmong k size w
among k size w = go (low_or_high w k)
  where
    more : (j : ℕ) → k + j ≡ w → (j < size) ⊎ (size ≤ j) → IsAmong k size w
    more j e (inl l) = is_within j e l
    more j e (inr l) = is_else (inr (omega (arith, e, l)))

    go : (w < k) ⊎ (k ≤ w) → IsAmong k size w
    go (inl l) = is_else (inl l)
    go (inr l) = let j = w - k in let e : k + j ≡ w = omega (arith, l) in more j e (low_or_high j size)

-- ---- whole words

module _ (target others : List Word) (k : ℕ) (vs : List Word)
    (takes : (j : ℕ) (v : Word) → slice_get vs j ≡ Some v → Takes target (k + j) v)
    (p : IsPut target others k vs) where
  put_refer : (w : ℕ) (r : Option ℕ) → slice_get others w ≡ Some (Refer r) → (s : Option ℕ) × (slice_get target w ≡ Some (Refer s))
  put_refer w r e = go (among k (length vs) w)
    where
      go : IsAmong k (length vs) w → (s : Option ℕ) × (slice_get target w ≡ Some (Refer s))
      go (is_else l) = (r, sym (p.rest w l) ∙ e)
      go (is_within j f l) =
          let v = is_there vs j l in
          let same : Some v.0 ≡ Some (Refer r) = sym (p.there j v.0 v.1) ∙ ap (slice_get others) f ∙ e in
          let is : v.0 ≡ Refer r = cc in
          let t = takes j v.0 v.1 in
          let s = fits_refer t.old r (sym (ap (fits t.old) is) ∙ t.takes) in
          (s.0, ap (slice_get target) (sym f) ∙ t.stood ∙ ap Some s.1)

  put_referred : (w : ℕ) (s : Option ℕ) → slice_get target w ≡ Some (Refer s) → (r : Option ℕ) × (slice_get others w ≡ Some (Refer r))
  put_referred w s e = go (among k (length vs) w)
    where
      go : IsAmong k (length vs) w → (r : Option ℕ) × (slice_get others w ≡ Some (Refer r))
      go (is_else l) = (s, p.rest w l ∙ e)
      go (is_within j f l) =
          let v = is_there vs j l in
          let t = takes j v.0 v.1 in
          let same : Some t.old ≡ Some (Refer s) = sym t.stood ∙ ap (slice_get target) f ∙ e in
          let is : t.old ≡ Refer s = cc in
          let r = refer_fits s v.0 (sym (ap (λ (o : Word). fits o v.0) is) ∙ t.takes) in
          (r.0, ap (slice_get others) (sym f) ∙ p.there j v.0 v.1 ∙ ap Some r.1)

  pub put_ranged : ((j : ℕ) (z : ℤ) → slice_get vs j ≡ Some (Plain z) → InRange kind.Int z) → AreInRange target → AreInRange others
  put_ranged h i w z e = go (among k (length vs) w)
    where
      go : IsAmong k (length vs) w → InRange kind.Int z
      go (is_else l) = i w z (sym (p.rest w l) ∙ e)
      go (is_within j f l) =
          let v = is_there vs j l in
          h j z (v.1 ∙ sym (p.there j v.0 v.1) ∙ ap (slice_get others) f ∙ e)

  module _ (to size : ℕ) (even : to % 4 ≡ 0) (first : to / 4 ≡ k) (long : size ≡ 4 * length vs) where
    outside : (b : ℕ) → (b < to) ⊎ (to + size ≤ b) → (b / 4 < k) ⊎ (k + length vs ≤ b / 4)
    outside b (inl l) = inl (omega (arith, l, even, first))
    outside b (inr l) = inr (omega (arith, l, even, first, long))

    apart : (w : ℕ) → (4 * w + 4 ≤ to) ⊎ (to + size ≤ 4 * w) → (w < k) ⊎ (k + length vs ≤ w)
    apart w (inl l) = inl (omega (arith, l, even, first))
    apart w (inr l) = inr (omega (arith, l, even, first, long))

    pub put_changes : Changes target others to size
    put_changes = record {
      many = p.many;
      bytes = λ b l. ap (λ (o : Option Word). content_in o (b % 4)) (p.rest (b / 4) (outside b l));
      words = λ w l. p.rest w (apart w l);
      refer = put_refer;
      referred = put_referred;
    }

-- ---- a word

pub one_takes : (target : List Word) (k : ℕ) (old new : Word) → slice_get target k ≡ Some old → fits old new ≡ true
    → (j : ℕ) (v : Word) → slice_get (new ∷ []) j ≡ Some v → Takes target (k + j) v
one_takes target k old new e f zero v g =
    let same : new ≡ v = cc in
    let at : k + 0 ≡ k = omega arith in
    record { old = old; stood = ap (slice_get target) at ∙ e; takes = ap (fits old) (sym same) ∙ f }
one_takes target k old new e f (suc j) v g = absurd cc

pub one_put : (target : List Word) (k : ℕ) (old new : Word) → slice_get target k ≡ Some old → fits old new ≡ true
    → IsPut target (slice_set target k new) k (new ∷ [])
one_put target k old new e f =
    let i = put_words (new ∷ []) target k (one_takes target k old new e f) in
    let g : Found (slice_set target k new) ≡ Found i.0 =
    sym (ap (λ (a : Access (List Word)). a >>= λ after. Found after) (replaced_is target k old new e f)) ∙ i.1 in
    let same : i.0 ≡ slice_set target k new = cc in
    subst (λ (ws : List Word). IsPut target ws k (new ∷ [])) same i.2

pub stored_is : (target : List Word) (to : ℕ) (old new : Word) → to % 4 ≡ 0 → slice_get target (to / 4) ≡ Some old → fits old new ≡ true
    → stored target (pos to) new ≡ Found (slice_set target (to / 4) new)
stored_is target to old new even e f =
    ap (λ n. (if n == 0 then Found (to / 4) else Wrong type_check) >>= λ k. replaced target k new) even
    ∙ replaced_is target (to / 4) old new e f

word_changes : (target : List Word) (to : ℕ) (old new : Word) → word_at target (pos to) ≡ Found old → fits old new ≡ true
    → (stored target (pos to) new ≡ Found (slice_set target (to / 4) new))
    × (word_at (slice_set target (to / 4) new) (pos to) ≡ Found new)
    × Changes target (slice_set target (to / 4) new) to 4
word_changes target to old new e f =
    let w = word_found target to old e in (
      stored_is target to old new w.0 w.1 f,
      word_there (slice_set target (to / 4) new) to new w.0 (set_same target (to / 4) new old w.1),
      put_changes target (slice_set target (to / 4) new) (to / 4) (new ∷ []) (one_takes target (to / 4) old new w.1 f)
          (one_put target (to / 4) old new w.1 f) to 4 w.0 refl refl,
    )

-- ---- a number

-- where one is read, one can be stored
pub reads_takes : (o : Option Word) (y : ℤ) → Reads o y → (old : Word) × (o ≡ Some old) × ((z : ℤ) → fits old (Plain z) ≡ true)
reads_takes None y e = absurd cc
reads_takes (Some (Plain z)) y e = (Plain z, refl, λ x. refl)
reads_takes (Some (Refer r)) y e = absurd cc
reads_takes (Some (Address p at)) y e = (Address p at, refl, λ x. refl)

plain_ranged : (z : ℤ) → InRange kind.Int z → (j : ℕ) (y : ℤ) → slice_get (Plain z ∷ []) j ≡ Some (Plain y) → InRange kind.Int y
plain_ranged z i zero y e = let f : z ≡ y = cc in subst (λ (x : ℤ). InRange kind.Int x) f i
plain_ranged z i (suc j) y e = absurd cc

int_stored : (target : List Word) (to : ℕ) (old z : ℤ) → number_at kind.Int target (pos to) ≡ Found old → NumberStored kind.Int target to z
int_stored target to old z e =
    let n = int_found target to old e in
    let t = reads_takes (slice_get target (to / 4)) old n.1 in
    let found = stored_is target to t.0 (Plain z) n.0 t.1 (t.2 z) in
    let takes = one_takes target (to / 4) t.0 (Plain z) t.1 (t.2 z) in
    let put = one_put target (to / 4) t.0 (Plain z) t.1 (t.2 z) in
    record {
      others = slice_set target (to / 4) (Plain z);
      found = found;
      there = λ i. read_back kind.Int target (slice_set target (to / 4) (Plain z)) (pos to) z i found;
      changes = λ i. put_changes target (slice_set target (to / 4) (Plain z)) (to / 4) (Plain z ∷ []) takes put to 4 n.0 refl refl;
      ranged = λ i. put_ranged target (slice_set target (to / 4) (Plain z)) (to / 4) (Plain z ∷ []) takes put (plain_ranged z i);
    }

-- ---- a big

pub two_takes : (target : List Word) (k : ℕ) (high low : ℤ) → Reads (slice_get target k) high → Reads (slice_get target (suc k)) low
    → (a b : ℤ) (j : ℕ) (v : Word) → slice_get (Plain a ∷ Plain b ∷ []) j ≡ Some v → Takes target (k + j) v
two_takes target k high low e f a b zero v g =
    let t = reads_takes (slice_get target k) high e in
    let same : Plain a ≡ v = cc in
    let at : k + 0 ≡ k = omega arith in
    record { old = t.0; stood = ap (slice_get target) at ∙ t.1; takes = ap (fits t.0) (sym same) ∙ t.2 a }
two_takes target k high low e f a b (suc zero) v g =
    let t = reads_takes (slice_get target (suc k)) low f in
    let same : Plain b ≡ v = cc in
    let at : k + 1 ≡ suc k = omega arith in
    record { old = t.0; stood = ap (slice_get target) at ∙ t.1; takes = ap (fits t.0) (sym same) ∙ t.2 b }
two_takes target k high low e f a b (suc (suc j)) v g = absurd cc

-- The words of a big are put there as it is stored.
pub big_put : (target others : List Word) (to : ℕ) (z : ℤ) → to % 4 ≡ 0
    → put target (to / 4) (Plain (high_part z) ∷ Plain (low_part z) ∷ []) ≡ Found others
    → with_number_at kind.Big target (pos to) z ≡ Found others
big_put target others to z even e =
    ap (λ n. (if n == 0 then Found (to / 4) else Wrong type_check) >>= λ k. replaced target k (Plain (high_part z)) >>= λ after.
    replaced after (suc k) (Plain (low_part z))) even
    ∙ go (replaced target (to / 4) (Plain (high_part z))) e
  where
    one : (a : Access (List Word)) → (a >>= λ after. Found after) ≡ Found others → a ≡ Found others
    one (Found ws) f = f
    one (Wrong n) f = absurd cc
    one (Raises text) f = absurd cc

    go : (a : Access (List Word))
        → (a >>= λ after. replaced after (suc (to / 4)) (Plain (low_part z)) >>= λ last. Found last) ≡ Found others
        → (a >>= λ after. replaced after (suc (to / 4)) (Plain (low_part z))) ≡ Found others
    go (Found ws) f = one (replaced ws (suc (to / 4)) (Plain (low_part z))) f
    go (Wrong n) f = absurd cc
    go (Raises text) f = absurd cc

pub high_ranged : (z : ℤ) → InRange kind.Big z → InRange kind.Int (high_part z)
high_ranged (pos n) i = let below = i.below in record { above = omega (arith, ints, below); below = omega (arith, ints, below) }
high_ranged (negsuc n) i = let above = i.above in record { above = omega (arith, ints, above); below = omega (arith, ints, above) }

two_ranged : (a b : ℤ) → InRange kind.Int a → InRange kind.Int b → (j : ℕ) (y : ℤ) → slice_get (Plain a ∷ Plain b ∷ []) j ≡ Some (Plain y)
    → InRange kind.Int y
two_ranged a b i k zero y e = let f : a ≡ y = cc in subst (λ (x : ℤ). InRange kind.Int x) f i
two_ranged a b i k (suc zero) y e = let f : b ≡ y = cc in subst (λ (x : ℤ). InRange kind.Int x) f k
two_ranged a b i k (suc (suc j)) y e = absurd cc

big_stored : (target : List Word) (to : ℕ) (old z : ℤ) → number_at kind.Big target (pos to) ≡ Found old → NumberStored kind.Big target to z
big_stored target to old z e =
    let n = big_found target to old e in
    let takes = two_takes target (to / 4) n.high n.low n.first n.second (high_part z) (low_part z) in
    let i = put_words (Plain (high_part z) ∷ Plain (low_part z) ∷ []) target (to / 4) takes in
    let found = big_put target i.0 to z n.even i.1 in
    record {
      others = i.0;
      found = found;
      there = λ r. read_back kind.Big target i.0 (pos to) z r found;
      changes = λ r. put_changes target i.0 (to / 4) (Plain (high_part z) ∷ Plain (low_part z) ∷ []) takes i.2 to 8 n.even refl refl;
      ranged = λ r. put_ranged target i.0 (to / 4) (Plain (high_part z) ∷ Plain (low_part z) ∷ []) takes i.2
          (two_ranged (high_part z) (low_part z) (high_ranged z r) (always kind.Int z));
    }

-- ---- a byte

byte_stored : (target : List Word) (to : ℕ) (old z : ℤ) → number_at kind.Byte target (pos to) ≡ Found old
    → NumberStored kind.Byte target to z
byte_stored target to old z e =
    let n = byte_found target to old e in
    let i = one_byte target to z n.0 n.1 in
    record {
      others = i.0;
      found = i.1;
      there = λ r. read_back kind.Byte target i.0 (pos to) z r i.1;
      changes = λ r. changes i.0 (i.2 (in_byte z (r refl)));
      ranged = λ r. (i.2 (in_byte z r)).ranged;
    }
  where
    in_byte : (z : ℤ) → InRange kind.Byte z → unsigned_abs z < 256
    in_byte (pos n) r = let below = r.below in omega (arith, ints, below)
    in_byte (negsuc n) r = let above = r.above in absurd (omega (arith, ints, above))

    changes : (others : List Word) → BytesPut target others to (unsigned_abs z ∷ []) → Changes target others to 1
    changes others b = record {
      many = b.many;
      bytes = b.bytes;
      words = b.words;
      refer = λ w r f. (r, b.refer w r f);
      referred = λ w s f. (s, b.referred w s f);
    }

number_changes : (k : Kind) (target : List Word) (to : ℕ) (old z : ℤ) → number_at k target (pos to) ≡ Found old → NumberStored k target to z
number_changes kind.Byte = byte_stored
number_changes kind.Int = int_stored
number_changes kind.Big = big_stored

pub words_change : WordsChange
words_change = record { word = word_changes; number = number_changes }
