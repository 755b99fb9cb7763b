-- Arrays of bytes, as they are read and made.
use Rattle.std.proofs.Common.{◌≡◌, ℕ, zero, suc, ◌+◌, ◌*◌, ◌<◌, ℤ, pos, ◌/◌, ◌%◌, Bool, true, false, List, [], ◌∷◌, length, map}
use Rattle.std.proofs.Common.{Option, Some, None, refl, sym, ap, ◌∙◌, subst, arith, if◌then◌else◌}
use Rattle.std.specs.Prelude.{◌==◌, ◌&&◌, slice_get, nat_le}
use Rattle.std.specs.List.{range_with_len}
use Rattle.limbo_values.specs.declared.number.Kind.TheVariants as kind
use Rattle.limbo_values.specs.declared.number.Kind.TheVariants.{Byte}
use Rattle.limbo_values.specs.Numbers.{InRange}
use Rattle.dis_meaning.specs.Words.{Word, Plain, Refer, Access, Found, Wrong, Raises, ◌>>=◌, type_check, or_wrong, number_in}
use Rattle.dis_meaning.specs.Numbers.{number_at}
use Rattle.dis_memory.specs.Blocks as blocks
use Rattle.dis_memory.specs.Blocks.{Array, blank_array, bytes_for, words_for, most_bytes}
use Rattle.dis_memory.specs.Raising.{large_text}
use Rattle.dis_memory.specs.Kinds.{Elements}
use Rattle.dis_memory.specs.Copies.{byte_of, bytes_from, put_bytes}
use Rattle.dis_memory.specs.Strings.{bytes_in, array_of, with_bytes, byte_type}
use Rattle.value_words.specs.Contents as contents
use Rattle.value_words.specs.Contents.{content, AreInRange}
use Rattle.value_words.proofs.Bytes.{Reads, byte_there, read_byte, zero_within}
use Rattle.value_moves.proofs.Storing.{BytesPut}
use Rattle.value_moves.proofs.Copying.{bytes_put}
use Rattle.block_effects.specs.Copying.{IsOfBytes, BytesAreCopied}
use Rattle.block_effects.proofs.Copying.{none_marked}

-- ---- reading

read : (words : List Word) (bs : List ℕ) (from : ℕ)
    → ((j b : ℕ) → slice_get bs j ≡ Some b → number_at Byte words (pos (from + j)) ≡ Found (pos b))
    → bytes_from words from (length bs) ≡ Found bs
read words [] from h = refl
read words (b ∷ bs) from h =
    let first : number_at Byte words (pos from) ≡ Found (pos b) =
    let e : from ≡ from + 0 = omega arith in ap (λ (m : ℕ). number_at Byte words (pos m)) e ∙ h 0 b refl in
    ap (λ (a : Access ℤ). a >>= byte_of >>= λ b. bytes_from words (suc from) (length bs) >>= λ bs. Found (b ∷ bs)) first
    ∙ ap (λ (a : Access (List ℕ)). a >>= λ bs. Found (b ∷ bs))
    (read words bs (suc from)
    (λ j c e. let f : suc from + j ≡ from + suc j = omega arith in ap (λ (m : ℕ). number_at Byte words (pos m)) f ∙ h (suc j) c e))

read_in : (e : Elements) (bs : List ℕ) → e.element.size ≡ 1 → e.long ≡ length bs
    → ((j b : ℕ) → slice_get bs j ≡ Some b → number_at Byte e.words (pos (e.start + j)) ≡ Found (pos b)) → bytes_in (Some e) ≡ Found bs
read_in e bs one long h =
    ap (λ (m : ℕ). if m == 1 then bytes_from e.words e.start e.long else Wrong type_check) one
    ∙ ap (bytes_from e.words e.start) long
    ∙ read e.words bs e.start h

-- ---- a new array

and_false : (b : Bool) → (b && false) ≡ false
and_false true = refl
and_false false = refl

-- Its words are all 0.
plain_word : (k : ℕ) → blocks.blank_word byte_type k ≡ Plain (pos 0)
plain_word k =
    let byte = (4 * k) % 1 in
    ap (λ (b : Bool). if byte % 4 == 0 && b then Refer None else Plain (pos 0)) (none_marked (byte / 4))
    ∙ ap (λ (b : Bool). if b then Refer None else Plain (pos 0)) (and_false (byte % 4 == 0))

module _ (f : ℕ → Word) (plain : (k : ℕ) → f k ≡ Plain (pos 0)) where
  zeros : (from n k : ℕ) → k < n → slice_get (map f (range_with_len from n)) k ≡ Some (Plain (pos 0))
  zeros from zero k l = absurd (omega (arith, l))
  zeros from (suc n) zero l = ap Some (plain from)
  zeros from (suc n) (suc k) l = zeros (from + 1) n k (omega (arith, l))

  only_zeros : (ks : List ℕ) (k : ℕ) (w : Word) → slice_get (map f ks) k ≡ Some w → w ≡ Plain (pos 0)
  only_zeros [] k w e = absurd cc
  only_zeros (x ∷ ks) zero w e = let g = plain x in cc
  only_zeros (x ∷ ks) (suc k) w e = only_zeros ks k w e

  long : (from n : ℕ) → length (map f (range_with_len from n)) ≡ n
  long from zero = refl
  long from (suc n) = ap suc (long (from + 1) n)

module _ (bs : List ℕ) (small : (j b : ℕ) → slice_get bs j ≡ Some b → b < 256) where
  abbrev target : List Word
  target = map (blocks.blank_word byte_type) (range_with_len 0 (words_for byte_type (length bs)))

  target_long : length target ≡ (length bs + 3) / 4
  target_long =
      let e = long (blocks.blank_word byte_type) plain_word 0 (words_for byte_type (length bs)) in
      let f : words_for byte_type (length bs) ≡ (length bs + 3) / 4 = omega arith in
      e ∙ f

  target_reads : (j : ℕ) → j < length bs → Reads (slice_get target ((0 + j) / 4)) (pos 0)
  target_reads j l =
      ap (λ (o : Option Word). or_wrong type_check o >>= number_in)
      (zeros (blocks.blank_word byte_type) plain_word 0 (words_for byte_type (length bs)) ((0 + j) / 4) (omega (arith, l)))

  target_ranged : AreInRange target
  target_ranged k z e =
      let f = only_zeros (blocks.blank_word byte_type) plain_word (range_with_len 0 (words_for byte_type (length bs))) k (Plain z) e in
      let g : pos 0 ≡ z = cc in
      subst (λ (y : ℤ). InRange kind.Int y) g zero_within

  words_put : (others : List Word) × (put_bytes target 0 bs ≡ Found others) × BytesPut target others 0 bs
  words_put = bytes_put bs target 0 small (λ j l. (pos 0, target_reads j l))

  array : nat_le (bytes_for byte_type (length bs)) most_bytes ≡ true → (words : List Word) × IsOfBytes bs words
  array h =
      let q = words_put in
      let p = q.2 in (
        q.0,
        record {
          found = ap (λ (b : Bool). (if b then Found (blank_array byte_type (length bs)) else Raises large_text) >>= with_bytes bs) h
              ∙ ap (λ (a : Access (List Word)). a >>= λ after. Found (Array byte_type (length bs) after)) q.1;
          each = λ j b e. each q.0 j b (p.there j b e);
          many = p.many ∙ target_long;
          plain = λ w r e. none w r (p.refer w r e);
          ranged = p.ranged target_ranged;
        },
      )
    where
      each : (words : List Word) (j b : ℕ) → content words (0 + j) ≡ Some (contents.Byte b) → number_at Byte words (pos j) ≡ Found (pos b)
      each words j b e =
          let f : 0 + j ≡ j = omega arith in
          let r = read_byte (slice_get words (j / 4)) (j % 4) b (omega arith) (ap (content words) (sym f) ∙ e) in
          byte_there words j r.0 r.1 ∙ ap (λ (c : ℕ). Found (pos c)) r.2

      none : (w : ℕ) (r : Option ℕ) → slice_get target w ≡ Some (Refer r) → ⊥
      none w r e =
          let f = only_zeros (blocks.blank_word byte_type) plain_word (range_with_len 0 (words_for byte_type (length bs))) w (Refer r) e in
          absurd cc

too_many : (bs : List ℕ) → nat_le (bytes_for byte_type (length bs)) most_bytes ≡ false → array_of bs ≡ Raises large_text
too_many bs h = ap (λ (b : Bool). (if b then Found (blank_array byte_type (length bs)) else Raises large_text) >>= with_bytes bs) h

pub bytes_are_copied : BytesAreCopied
bytes_are_copied = record {
  read = λ words from bs h. read words bs from h;
  read_in = read_in;
  array = λ bs h small. array bs small h;
  too_many = too_many;
}
