-- The same bytes stand for the same.
use Rattle.std.proofs.Common.{◌≡◌, ℕ, suc, ◌+◌, ◌<◌, ◌≤◌, ℤ, pos, ◌%◌, ◌/◌, List, Option, Some, sym, ap, ◌∙◌}
use Rattle.std.proofs.Common.{subst, arith}
use Rattle.std.specs.Prelude.{slice_get, slice_index}
use Rattle.limbo_types.specs.Types.{Ty}
use Rattle.limbo_layout.specs.Adts.{Def}
use Rattle.limbo_layout.specs.Layout.{Room, Laid}
use Rattle.limbo_values.specs.declared.number.Kind.{Kind}
use Rattle.limbo_values.specs.declared.number.Kind.TheVariants as kind
use Rattle.limbo_values.specs.Numbers.{InRange}
use Rattle.limbo_meaning.specs.Values.{Value}
use Rattle.dis_meaning.specs.Words.{Word, Plain, Refer, Found, word_at}
use Rattle.dis_meaning.specs.Numbers.{bytes_of, number_at}
use Rattle.value_words.specs.Facts.{Facts}
use Rattle.value_words.specs.Stands.{Stands}
use Rattle.value_words.specs.Contents.{content, content_in, SameBytes, AreInRange}
use Rattle.value_words.proofs.Aligned.{IsPower, stays_aligned}
use Rattle.value_words.proofs.Bytes.{Reads, word_found, word_there, int_found, int_there, big_found, big_there, byte_found}
use Rattle.value_words.proofs.Bytes.{byte_there, content_at, content_next, refer_same, byte_read, read_byte, read_within, same_number}
use Rattle.value_words.proofs.Carrying.{bytes_in, carried}

module _ (words others : List Word) (ranges : AreInRange words) (in_range : AreInRange others) where
  abbrev pub Same : (at there size align : ℕ) → Type 0
  Same at there size align = (there % align ≡ 0) × SameBytes words at others there size

  -- a number whose four bytes are those of another word's
  read_again : (u w : Option Word) (z : ℤ) → ((y : ℤ) → u ≡ Some (Plain y) → InRange kind.Int y)
      → ((y : ℤ) → w ≡ Some (Plain y) → InRange kind.Int y) → ((k : ℕ) → k < 4 → content_in w k ≡ content_in u k) → Reads u z → Reads w z
  read_again u w z i j h e =
      let y = read_byte w 0 (slice_index (bytes_of z) 0) (omega arith) (h 0 (omega arith) ∙ byte_read u z 0 (omega arith) e) in
      let same : y.0 ≡ z = same_number y.0 z (read_within w y.0 j y.1) (read_within u z i e) (λ k l. byte_same y.0 k l y.1) in
      subst (λ x. Reads w x) same y.1
    where
      byte_same : (y : ℤ) (k : ℕ) → k < 4 → Reads w y → slice_index (bytes_of y) k ≡ slice_index (bytes_of z) k
      byte_same y k l r =
          let a = byte_read w y k l r in
          let b = h k l ∙ byte_read u z k l e in
          cc

  four_same : (at there : ℕ) → at % 4 ≡ 0 → there % 4 ≡ 0 → SameBytes words at others there 4
      → (k : ℕ) → k < 4 → content_in (slice_get others (there / 4)) k ≡ content_in (slice_get words (at / 4)) k
  four_same at there a b s k l = sym (content_at others there k b l) ∙ s k l ∙ content_at words at k a l

  next_same : (at there : ℕ) → at % 4 ≡ 0 → there % 4 ≡ 0 → SameBytes words at others there 8
      → (k : ℕ) → k < 4 → content_in (slice_get others (suc (there / 4))) k ≡ content_in (slice_get words (suc (at / 4))) k
  next_same at there a b s k l =
      sym (content_next others there k b l) ∙ s (4 + k) (omega arith) ∙ content_next words at k a l

  number_goes : (at there : ℕ) (k : Kind) (z : ℤ) → Same at there (bytes_in k) (bytes_in k) → number_at k words (pos at) ≡ Found z
      → InRange k z → number_at k others (pos there) ≡ Found z
  number_goes at there kind.Byte z s e i =
      let f = byte_found words at z e in
      let h : content others there ≡ content words at =
      ap (content others) (let g : there ≡ there + 0 = omega arith in g) ∙ s.1 0 (omega arith)
      ∙ ap (content words) (let g : at + 0 ≡ at = omega arith in g) in
      let y = read_byte (slice_get others (there / 4)) (there % 4) (slice_index (bytes_of f.0) (at % 4)) (omega arith)
      (h ∙ byte_read (slice_get words (at / 4)) f.0 (at % 4) (omega arith) f.1) in
      byte_there others there y.0 y.1 ∙ ap (λ b. Found (pos b)) y.2 ∙ ap Found f.2
  number_goes at there kind.Int z s e i =
      let f = int_found words at z e in
      int_there others there z s.0
      (read_again (slice_get words (at / 4)) (slice_get others (there / 4)) z (ranges (at / 4)) (in_range (there / 4))
      (four_same at there f.0 s.0 s.1) f.1)
  number_goes at there kind.Big z s e i =
      let f = big_found words at z e in
      let even : there % 4 ≡ 0 = let g = s.0 in omega arith in
      big_there others there z (record {
        even = even;
        high = f.high;
        low = f.low;
        first = read_again (slice_get words (at / 4)) (slice_get others (there / 4)) f.high (ranges (at / 4)) (in_range (there / 4))
            (four_same at there f.even even (λ o l. s.1 o (omega arith))) f.first;
        second = read_again (slice_get words (suc (at / 4))) (slice_get others (suc (there / 4))) f.low (ranges (suc (at / 4)))
            (in_range (suc (there / 4))) (next_same at there f.even even s.1) f.second;
        is = f.is;
      })

  reference_goes : (at there : ℕ) (r : Option ℕ) → Same at there 4 4 → word_at words (pos at) ≡ Found (Refer r)
      → word_at others (pos there) ≡ Found (Refer r)
  reference_goes at there r s e =
      let f = word_found words at (Refer r) e in
      let h = four_same at there f.0 s.0 s.1 0 (omega arith) ∙ ap (λ o. content_in o 0) f.1 in
      word_there others there (Refer r) s.0 (refer_same (slice_get others (there / 4)) r h)

  part_same : (at there size align off s a : ℕ) → IsPower align → IsPower a → a ≤ align → off % a ≡ 0 → off + s ≤ size
      → Same at there size align → Same (at + off) (there + off) s a
  part_same at there size align off s a p q l e f h = (
    stays_aligned there off a align q p l h.0 e,
    λ o k.
        ap (content others) (let g : there + off + o ≡ there + (off + o) = omega arith in g)
        ∙ h.1 (off + o) (omega arith)
        ∙ ap (content words) (let g : at + (off + o) ≡ at + off + o = omega arith in g),
  )

  pub moved : (defs : List Def) (facts : Facts) (at there : ℕ) (t : Ty) (r : Room) (v : Value) → Laid defs t r → there % r.align ≡ 0
      → SameBytes words at others there r.size → Stands defs facts words at t v → Stands defs facts others there t v
  moved defs facts at there t r v l e s h =
      carried defs facts words others Same number_goes reference_goes part_same at there t r v l (e, s) h
