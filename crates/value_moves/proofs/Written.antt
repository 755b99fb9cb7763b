-- Words and bytes that are put are a write of those that were taken.
use Rattle.std.proofs.Common.{◌≡◌, ℕ, ◌+◌, ◌*◌, ◌<◌, ◌≤◌, ◌⊎◌, ℤ, ◌/◌, ◌%◌, List, length}
use Rattle.std.proofs.Common.{Option, Some, refl, sym, ap, ◌∙◌, arith, inl, inr}
use Rattle.std.specs.Prelude.{slice_get}
use Rattle.limbo_values.specs.declared.number.Kind.TheVariants as kind
use Rattle.limbo_values.specs.Numbers.{InRange}
use Rattle.dis_meaning.specs.Words.{Word, Plain}
use Rattle.value_words.specs.Contents.{content, content_in, AreInRange}
use Rattle.value_words.proofs.Rows.{is_there}
use Rattle.value_moves.specs.Writing.{Writes}
use Rattle.value_moves.proofs.Putting.{Takes, IsPut}
use Rattle.value_moves.proofs.Storing.{BytesPut}
use Rattle.value_moves.proofs.Copying.{IsTaken, BytesTaken}
use Rattle.value_moves.proofs.Changing.{put_changes, put_ranged}

module _ (target others source vs : List Word) (to from size : ℕ) (even : to % 4 ≡ 0) (long : size ≡ 4 * length vs)
    (takes : (j : ℕ) (v : Word) → slice_get vs j ≡ Some v → Takes target (to / 4 + j) v) (p : IsPut target others (to / 4) vs) where
  pub writes_put : ((j : ℕ) (v : Word) → slice_get vs j ≡ Some v → (o : ℕ) → o < 4
      → content_in (Some v) o ≡ content source (from + (4 * j + o)))
      → (AreInRange source → (j : ℕ) (z : ℤ) → slice_get vs j ≡ Some (Plain z) → InRange kind.Int z)
      → Writes target others to source from size
  writes_put same ranged =
      let c = put_changes target others (to / 4) vs takes p to size even refl long in
      record {
        many = c.many;
        there = there;
        bytes = c.bytes;
        words = c.words;
        refer = c.refer;
        referred = c.referred;
        ranged = λ i. put_ranged target others (to / 4) vs takes p (ranged i);
      }
    where
      there : (o : ℕ) → o < size → content others (to + o) ≡ content source (from + o)
      there o l =
          let v = is_there vs (o / 4) (omega (arith, l, long)) in
          let d : (to + o) / 4 ≡ to / 4 + o / 4 = omega (arith, even) in
          let m : (to + o) % 4 ≡ o % 4 = omega (arith, even) in
          let e : from + (4 * (o / 4) + o % 4) ≡ from + o = omega arith in
          ap (λ (k : ℕ). content_in (slice_get others k) ((to + o) % 4)) d
          ∙ ap (λ (k : ℕ). content_in (slice_get others (to / 4 + o / 4)) k) m
          ∙ ap (λ (w : Option Word). content_in w (o % 4)) (p.there (o / 4) v.0 v.1)
          ∙ same (o / 4) v.0 v.1 (o % 4) (omega arith)
          ∙ ap (content source) e

  -- the words that were taken
  pub writes_taken : (n : ℕ) → from % 4 ≡ 0 → IsTaken source (from / 4) n vs → Writes target others to source from size
  writes_taken n first t = writes_put same (λ i j z e. i (from / 4 + j) z (t.each j (Plain z) e))
    where
      same : (j : ℕ) (v : Word) → slice_get vs j ≡ Some v → (o : ℕ) → o < 4 → content_in (Some v) o ≡ content source (from + (4 * j + o))
      same j v e o l =
          let d : (from + (4 * j + o)) / 4 ≡ from / 4 + j = omega (arith, first, l) in
          let m : (from + (4 * j + o)) % 4 ≡ o = omega (arith, first, l) in
          ap (λ (w : Option Word). content_in w o) (sym (t.each j v e))
          ∙ sym (ap (λ (k : ℕ). content_in (slice_get source k) ((from + (4 * j + o)) % 4)) d
          ∙ ap (λ (k : ℕ). content_in (slice_get source (from / 4 + j)) k) m)

-- the bytes that were
pub writes_bytes : (target others source : List Word) (to from n : ℕ) (bs : List ℕ) → BytesPut target others to bs
    → BytesTaken source from n bs → Writes target others to source from n
writes_bytes target others source to from n bs b t = record {
  many = b.many;
  there = there;
  bytes = λ m h. b.bytes m (past m h);
  words = λ w h. b.words w (past_word w h);
  refer = λ w r e. (r, b.refer w r e);
  referred = λ w r e. (r, b.referred w r e);
  ranged = λ i. b.ranged;
}
  where
    there : (o : ℕ) → o < n → content others (to + o) ≡ content source (from + o)
    there o l =
        let m = t.long in
        let v = is_there bs o (omega (arith, l, m)) in
        b.there o v.0 v.1 ∙ sym (t.each o v.0 v.1)

    past : (m : ℕ) → (m < to) ⊎ (to + n ≤ m) → (m < to) ⊎ (to + length bs ≤ m)
    past m (inl l) = inl l
    past m (inr l) = let e = t.long in inr (omega (arith, l, e))

    past_word : (w : ℕ) → (4 * w + 4 ≤ to) ⊎ (to + n ≤ 4 * w) → (4 * w + 4 ≤ to) ⊎ (to + length bs ≤ 4 * w)
    past_word w (inl l) = inl l
    past_word w (inr l) = let e = t.long in inr (omega (arith, l, e))
