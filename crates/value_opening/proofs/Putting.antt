-- One item is put, and many are.
use Rattle.std.proofs.Common.{◌≡◌, ℕ, suc, ◌+◌, ◌*◌, ◌/◌, ◌%◌, ◌<◌, ◌≤◌, ◌⊎◌, inl, inr, ℤ, pos, List, [], ◌∷◌, ◌++◌}
use Rattle.std.proofs.Common.{length, map, Option, Some, refl, sym, ap, ◌∙◌, subst, arith, append_assoc, append-nil, length-append}
use Rattle.std.specs.Prelude.{slice_get, slice_set, encode_utf8_all}
use Rattle.std.specs.Str.{IsUtf8}
use Rattle.limbo_layout.specs.Adts.{Has}
use Rattle.limbo_values.specs.declared.number.Kind.{Kind}
use Rattle.limbo_values.specs.declared.number.Kind.TheVariants.{Byte, Int, Big}
use Rattle.limbo_values.specs.Numbers.{InRange}
use Rattle.dis_file.specs.declared.object.Object.{Object}
use Rattle.dis_meaning.specs.Words.{Word, Plain, Refer, Address, Access, Found, ◌>>=◌, word_at}
use Rattle.dis_meaning.specs.Numbers.{bytes_of, joined, number_at, with_number_at}
use Rattle.std.specs.Prelude.{slice_index}
use Rattle.dis_memory.specs.Blocks.{Outer}
use Rattle.dis_counts.specs.Opening.{Loading, with_item, with_items}
use Rattle.value_words.proofs.Bytes.{Reads, word_found, word_there, int_there, big_there, byte_there}
use Rattle.value_words.proofs.Rows.{is_there}
use Rattle.value_frames.specs.Types.{AreOf}
use Rattle.value_moves.specs.Changing.{Changes, bytes_in}
use Rattle.value_moves.proofs.Changing.{words_change, low_or_high}
use Rattle.value_opening.specs.Puts.{Put, OfText, OfNumber, number_item, item_of, text_of, texts_of, IsOfNumber, TakesNumber, Takes, TakesAll}
use Rattle.value_opening.specs.Putting.{state, IsPut, ArePut, none_put, more_put, PutsChange}
use Rattle.value_opening.proofs.Items.{byte_put, word_put, long_put, text_put}

module _ (size : ℕ) (references : List ℕ) (words : List Word) (kind : AreOf size references words) where
  -- ---- a number is read where a word has one

  word_read : (w : ℕ) → IsOfNumber size references w → (z : ℤ) × Reads (slice_get words w) z
  word_read w n =
      let many = kind.many in
      let l = n.0 in
      let x = is_there words w (omega (arith, l, many)) in
      go x.0 x.1
    where
      go : (x : Word) → slice_get words w ≡ Some x → (z : ℤ) × Reads (slice_get words w) z
      go (Plain z) e = (z, subst (λ (o : Option Word). Reads o z) (sym e) refl)
      go (Refer r) e = absurd (n.1 (kind.only w r e))
      go (Address p at) e = (pos 0, subst (λ (o : Option Word). Reads o (pos 0)) (sym e) refl)

  number_read : (at : ℕ) (k : Kind) → TakesNumber size references at k → (old : ℤ) × (number_at k words (pos at) ≡ Found old)
  number_read at Byte n =
      let r = word_read (at / 4) n in
      (pos (slice_index (bytes_of r.0) (at % 4)), byte_there words at r.0 r.1)
  number_read at Int n = let r = word_read (at / 4) n.1 in (r.0, int_there words at r.0 n.0 r.1)
  number_read at Big n =
      let r = word_read (at / 4) n.1 in
      let s = word_read (suc (at / 4)) n.2 in (
        joined r.0 s.0,
        big_there words at (joined r.0 s.0) (record {
          even = n.0;
          high = r.0;
          low = s.0;
          first = r.1;
          second = s.1;
          is = refl;
        }),
      )

  -- ---- words of which something changed are of their type

  kept : (others : List Word) (to bytes : ℕ) → Changes words others to bytes
      → ((w : ℕ) (z : ℤ) → slice_get others w ≡ Some (Plain z) → InRange Int z) → AreOf size references others
  kept others to bytes c i = record {
    many = c.many ∙ kind.many;
    ranged = i;
    refer = λ o h. let r = kind.refer o h in c.referred (o / 4) r.0 r.1;
    only = λ w r e. let s = c.refer w r e in kind.only w s.0 s.1;
  }

  -- a word that refers is none of those that a number changed
  named_still : (others : List Word) (at : ℕ) (k : Kind) → TakesNumber size references at k → Changes words others at (bytes_in k)
      → (w b : ℕ) → slice_get others w ≡ Some (Refer (Some b)) → slice_get words w ≡ Some (Refer (Some b))
  named_still others at k n c w b e = go (low_or_high at (4 * w + 4)) (low_or_high (4 * w) (at + bytes_in k))
    where
      has : Has references (4 * w)
      has = let s = c.refer w (Some b) e in kind.only w s.0 s.1

      none : (j : ℕ) → IsOfNumber size references j → j ≡ w → ⊥
      none j m f = m.1 (subst (λ (x : ℕ). Has references (4 * x)) (sym f) has)

      inside : (k : Kind) → TakesNumber size references at k → at < 4 * w + 4 → 4 * w < at + bytes_in k → ⊥
      inside Byte n l h = none (at / 4) n (omega (arith, l, h))
      inside Int n l h = let a = n.0 in none (at / 4) n.1 (omega (arith, l, h, a))
      inside Big n l h = second (low_or_high (4 * w) (at + 4))
        where
          second : (4 * w < at + 4) ⊎ (at + 4 ≤ 4 * w) → ⊥
          second (inl m) = let a = n.0 in none (at / 4) n.1 (omega (arith, l, m, a))
          second (inr m) = let a = n.0 in none (suc (at / 4)) n.2 (omega (arith, h, m, a))

      go : (at < 4 * w + 4) ⊎ (4 * w + 4 ≤ at) → (4 * w < at + bytes_in k) ⊎ (at + bytes_in k ≤ 4 * w)
          → slice_get words w ≡ Some (Refer (Some b))
      go (inr l) h = sym (c.words w (inl l)) ∙ e
      go (inl l) (inr h) = sym (c.words w (inr h)) ∙ e
      go (inl l) (inl h) = absurd (inside k n l h)

  -- ---- a number

  module _ (o : Object) (outer : Outer) (texts : List (List ℕ)) where
    abbrev Result : Put → Type 0
    Result p =
        (others : List Word) × IsPut size references words others (length texts) p
        × (with_item o (state outer words texts) (item_of p) ≡ Found (state outer others (texts ++ text_of p)))

    number_item_put : (others : List Word) (at : ℕ) (k : Kind) (z : ℤ) → TakesNumber size references at k → InRange k z
        → with_number_at k words (pos at) z ≡ Found others
        → with_item o (state outer words texts) (number_item at k z) ≡ Found (state outer others texts)
    number_item_put others at Byte z n i e = byte_put o outer words others (map _ texts) at z i e
    number_item_put others at Int z n i e = word_put o outer words others (map _ texts) at z i e
    number_item_put others at Big z n i e = long_put o outer words others (map _ texts) at z n.0 i e

    number_put : (at : ℕ) (k : Kind) (z : ℤ) → TakesNumber size references at k → InRange k z → Result (OfNumber at k z)
    number_put at k z n i =
        let old = number_read at k n in
        let s = words_change.number k words at old.0 z old.1 in
        let c = s.changes (λ f. i) in (
          s.others,
          record {
            kind = kept s.others at (bytes_in k) c (s.ranged i kind.ranged);
            changes = c;
            there = s.there i;
            named = λ w b e. inl (named_still s.others at k n c w b e);
          },
          number_item_put s.others at k z n i s.found
              ∙ ap (λ ts. Found (state outer s.others ts)) (sym (append-nil texts)),
        )

    -- ---- a text

    text_in : (at : ℕ) (t : List ℕ) → at % 4 ≡ 0 → Has references at → IsUtf8 (encode_utf8_all t) → Result (OfText at t)
    text_in at t even has h =
        let r = kind.refer at has in
        let new = Refer (Some (suc (length texts))) in
        let others = slice_set words (at / 4) new in
        let s = words_change.word words at (Refer r.0) new (word_there words at (Refer r.0) even r.1) refl in
        (others, text_is others s.2 s.1, text_put o outer words others texts at t h s.0)
      where
        text_is : (others : List Word) → Changes words others at 4 → word_at others (pos at) ≡ Found (Refer (Some (suc (length texts))))
            → IsPut size references words others (length texts) (OfText at t)
        text_is others c e = record {
          kind = kept others at 4 c (λ w z f. plain w z f (where_is w));
          changes = c;
          there = e;
          named = λ w b f. named w b f (where_is w);
        }
          where
            where_is : (w : ℕ) → ((4 * w + 4 ≤ at) ⊎ (at + 4 ≤ 4 * w)) ⊎ (at / 4 ≡ w)
            where_is w = by (low_or_high at (4 * w + 4)) (low_or_high (4 * w) (at + 4))
              where
                by : (at < 4 * w + 4) ⊎ (4 * w + 4 ≤ at) → (4 * w < at + 4) ⊎ (at + 4 ≤ 4 * w)
                    → ((4 * w + 4 ≤ at) ⊎ (at + 4 ≤ 4 * w)) ⊎ (at / 4 ≡ w)
                by (inr l) h = inl (inl l)
                by (inl l) (inr h) = inl (inr h)
                by (inl l) (inl h) = inr (omega (arith, l, h, even))

            there : slice_get others (at / 4) ≡ Some (Refer (Some (suc (length texts))))
            there = (word_found others at (Refer (Some (suc (length texts)))) e).1

            plain : (w : ℕ) (z : ℤ) → slice_get others w ≡ Some (Plain z) → ((4 * w + 4 ≤ at) ⊎ (at + 4 ≤ 4 * w)) ⊎ (at / 4 ≡ w)
                → InRange Int z
            plain w z f (inl l) = kind.ranged w z (sym (c.words w l) ∙ f)
            plain w z f (inr q) =
                let g : Some (Refer (Some (suc (length texts)))) ≡ Some (Plain z) = sym there ∙ ap (slice_get others) q ∙ f in absurd cc

            named : (w b : ℕ) → slice_get others w ≡ Some (Refer (Some b)) → ((4 * w + 4 ≤ at) ⊎ (at + 4 ≤ 4 * w)) ⊎ (at / 4 ≡ w)
                → (slice_get words w ≡ Some (Refer (Some b)))
                ⊎ ((s : List ℕ) × (t ∷ [] ≡ s ∷ []) × (b ≡ suc (length texts)))
            named w b f (inl l) = inl (sym (c.words w l) ∙ f)
            named w b f (inr q) =
                let g : Some (Refer (Some (suc (length texts)))) ≡ Some (Refer (Some b)) = sym there ∙ ap (slice_get others) q ∙ f in
                inr (t, refl, cc)

    one : (p : Put) → Takes size references p → Result p
    one (OfText at t) h = text_in at t h.0 h.1 h.2
    one (OfNumber at k z) h = number_put at k z h.0 h.1

module _ (o : Object) (outer : Outer) (size : ℕ) (references : List ℕ) where
  many : (ps : List Put) (words : List Word) (texts : List (List ℕ)) → AreOf size references words → TakesAll size references ps
      → (others : List Word) × ArePut size references words others (length texts) ps
      × (with_items o (state outer words texts) (map item_of ps) ≡ Found (state outer others (texts ++ texts_of ps)))
  many [] words texts kind h =
      (words, none_put words (length texts), ap (λ ts. Found (state outer words ts)) (sym (append-nil texts)))
  many (p ∷ ps) words texts kind h =
      let a = one size references words kind o outer texts p h.0 in
      let b = many ps a.0 (texts ++ text_of p) (a.1).kind h.1 in (
        b.0,
        more_put words a.0 b.0 (length texts) p ps a.1
            (subst (λ (n : ℕ). ArePut size references a.0 b.0 n ps) (length-append texts (text_of p)) b.1),
        ap (λ (l : Access Loading). l >>= λ m. with_items o m (map item_of ps)) a.2
            ∙ b.2
            ∙ ap (λ ts. Found (state outer b.0 ts)) (append_assoc texts (text_of p) (texts_of ps)),
      )

pub puts_change : PutsChange
puts_change = record {
  one = λ o outer size references words texts p kind h. one size references words kind o outer texts p h;
  many = λ o outer size references words texts ps kind h. many o outer size references ps words texts kind h;
}
