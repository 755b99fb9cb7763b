-- What an item does to the words of the instance.
use Rattle.std.proofs.Common.{◌≡◌, ℕ, suc, ℤ, pos, negsuc, ◌+◌, ◌/◌, ◌%◌, ◌^◌, ◌<◌, List, [], ◌∷◌, ◌++◌}
use Rattle.std.proofs.Common.{length, map, Some, refl, sym, ap, ◌∙◌, arith, if◌then◌else◌}
use Rattle.std.specs.Prelude.{◌==◌, encode_utf8_all, unsigned_abs}
use Rattle.std.specs.Int.{w32, w64, cast_signed, cast_unsigned, from_be_bytes, to_be_bytes, byte_at, int_rem_euclid, int_wrap}
use Rattle.std.specs.Str.{IsUtf8, chars}
use Rattle.std.proofs.lemmas.Int.{ints, to_z-of_z}
use Rattle.std.proofs.lemmas.Nat.{from_be_bytes-to_be_bytes_4}
use Rattle.std.proofs.lemmas.Str.{is_utf8-from_IsUtf8, chars_from_encodes}
use Rattle.heap_model.specs.Heap.{Heap}
use Rattle.dis_file.specs.declared.object.Object.{Object}
use Rattle.limbo_values.specs.declared.number.Kind.TheVariants.{Byte, Int, Big}
use Rattle.limbo_values.specs.Numbers.{InRange}
use Rattle.limbo_values.proofs.Ranges.{fits_int}
use Rattle.dis_meaning.specs.Words.{Word, Plain, Refer, Access, Found, Wrong, Raises, ◌>>=◌, type_check, replaced, stored}
use Rattle.dis_meaning.specs.Numbers.{with_number_at, high_part, low_part}
use Rattle.dis_memory.specs.Blocks.{Block, Text, Instance, World, Outer}
use Rattle.dis_memory.specs.Places.{with_data}
use Rattle.dis_counts.specs.Opening as opening
use Rattle.dis_counts.specs.Opening.{Loading, loading, changed, with_numbers, with_item}
use Rattle.dis_objects.specs.Objects.{string_item, word_item, long_item}
use Rattle.value_words.proofs.Rows.{map_long}
use Rattle.value_opening.specs.Puts.{byte_item}
use Rattle.value_opening.specs.Putting.{state}

-- ---- texts and numbers of items

spelled : (t : List ℕ) → IsUtf8 (encode_utf8_all t) → opening.text_of (encode_utf8_all t) ≡ Found (Text t)
spelled t h =
    ap (λ b. if b then Found (Text (chars (encode_utf8_all t))) else Wrong type_check) (is_utf8-from_IsUtf8 (encode_utf8_all t) h)
    ∙ ap (λ s. Found (Text s)) (sym (chars_from_encodes t (encode_utf8_all t) h refl))

byte_back : (z : ℤ) → InRange Byte z → pos (byte_at 0 (cast_unsigned w32 z)) ≡ z
byte_back (negsuc n) r = let above = r.above in absurd (omega (arith, ints, above))
byte_back (pos n) r = let below = r.below in ap pos (let few : n < 256 = omega (arith, ints, below) in omega (arith, few))

int_back : (z : ℤ) → InRange Int z → cast_signed w32 (from_be_bytes w32 (to_be_bytes w32 (cast_unsigned w32 z))) ≡ z
int_back z h =
    ap (cast_signed w32) (from_be_bytes-to_be_bytes_4 (cast_unsigned w32 z) (few z h)) ∙ to_z-of_z w32 z (fits_int z h)
  where
    few : (z : ℤ) → InRange Int z → cast_unsigned w32 z < 2 ^ 32
    few (pos a) h = let b = h.below in omega (arith, ints, b)
    few (negsuc a) h = let b = h.above in omega (arith, ints, b)

-- the two words of a big
high_bits : (z : ℤ) → InRange Big z → cast_unsigned w64 z / 2 ^ 32 ≡ cast_unsigned w32 (high_part z)
high_bits (pos a) h = let b = h.below in omega (arith, ints, b)
high_bits (negsuc a) h = let b = h.above in omega (arith, ints, b)

low_bits : (z : ℤ) → InRange Big z → cast_unsigned w64 z % 2 ^ 32 ≡ unsigned_abs (int_rem_euclid z (pos (2 ^ 32)))
low_bits (pos a) h = let b = h.below in omega (arith, ints, b)
low_bits (negsuc a) h = let b = h.above in omega (arith, ints, b)

big_few : (z : ℤ) → InRange Big z → cast_unsigned w64 z < 2 ^ 64
big_few (pos a) h = let b = h.below in omega (arith, ints, b)
big_few (negsuc a) h = let b = h.above in omega (arith, ints, b)

high_in : (z : ℤ) → InRange Big z → InRange Int (high_part z)
high_in (pos a) h = let b = h.below in record { above = omega (arith, ints, b); below = omega (arith, ints, b) }
high_in (negsuc a) h = let b = h.above in record { above = omega (arith, ints, b); below = omega (arith, ints, b) }

high_word : (n : ℕ) → n < 2 ^ 64 → from_be_bytes w32 (byte_at 7 n ∷ byte_at 6 n ∷ byte_at 5 n ∷ byte_at 4 n ∷ []) ≡ n / 2 ^ 32
high_word n l = omega (arith, l)

low_word : (n : ℕ) → from_be_bytes w32 (byte_at 3 n ∷ byte_at 2 n ∷ byte_at 1 n ∷ byte_at 0 n ∷ []) ≡ n % 2 ^ 32
low_word n = omega arith

high_back : (z : ℤ) → InRange Big z
    → cast_signed w32 (from_be_bytes w32 (byte_at 7 (cast_unsigned w64 z) ∷ byte_at 6 (cast_unsigned w64 z) ∷ byte_at 5
    (cast_unsigned w64 z)
    ∷ byte_at 4 (cast_unsigned w64 z) ∷ [])) ≡ high_part z
high_back z h =
    ap (cast_signed w32) (high_word (cast_unsigned w64 z) (big_few z h) ∙ high_bits z h)
    ∙ to_z-of_z w32 (high_part z) (fits_int (high_part z) (high_in z h))

low_back : (z : ℤ) → InRange Big z
    → cast_signed w32 (from_be_bytes w32 (byte_at 3 (cast_unsigned w64 z) ∷ byte_at 2 (cast_unsigned w64 z) ∷ byte_at 1
    (cast_unsigned w64 z)
    ∷ byte_at 0 (cast_unsigned w64 z) ∷ [])) ≡ low_part z
unfolding int_wrap
low_back z h = ap (cast_signed w32) (low_word (cast_unsigned w64 z) ∙ low_bits z h)

-- ---- a big as two ints

as_two : (words others : List Word) (at : ℕ) (z : ℤ) → at % 4 ≡ 0 → with_number_at Big words (pos at) z ≡ Found others
    → with_numbers Int at (high_part z ∷ low_part z ∷ []) words ≡ Found others
as_two words others at z even e =
    let r : (at + 4) % 4 ≡ 0 = omega (arith, even) in
    let d : (at + 4) / 4 ≡ suc (at / 4) = omega (arith, even) in
    let short : (replaced words (at / 4) (Plain (high_part z)) >>= λ after. replaced after (suc (at / 4)) (Plain (low_part z)))
    ≡ Found others =
    sym (ap (λ n. (if n == 0 then Found (at / 4) else Wrong type_check) >>= λ k. replaced words k (Plain (high_part z)) >>= λ after.
    replaced after (suc k) (Plain (low_part z))) even) ∙ e in
    ap (λ n. ((if n == 0 then Found (at / 4) else Wrong type_check) >>= λ k. replaced words k (Plain (high_part z))) >>= λ after.
    stored after (pos (at + 4)) (Plain (low_part z)) >>= λ last. Found last) even
    ∙ ap (λ n. replaced words (at / 4) (Plain (high_part z)) >>= λ after.
    ((if n == 0 then Found ((at + 4) / 4) else Wrong type_check) >>= λ k. replaced after k (Plain (low_part z))) >>= λ last. Found last) r
    ∙ ap (λ n. replaced words (at / 4) (Plain (high_part z)) >>= λ after.
    replaced after n (Plain (low_part z)) >>= λ last. Found last) d
    ∙ go (replaced words (at / 4) (Plain (high_part z))) short
  where
    go : (a : Access (List Word)) → (a >>= λ after. replaced after (suc (at / 4)) (Plain (low_part z))) ≡ Found others
        → (a >>= λ after. replaced after (suc (at / 4)) (Plain (low_part z)) >>= λ last. Found last) ≡ Found others
    go (Found ws) f = ap (λ (b : Access (List Word)). b >>= λ last. Found last) f
    go (Wrong n) f = absurd cc
    go (Raises text) f = absurd cc

-- ---- the words of the instance, changed

module _ (o : Object) (outer : Outer) (words others : List Word) (rest : Heap Block) where
  abbrev world : List Word → World
  world ws = record { heap = Some (Instance 0 ws) ∷ rest; outside = outer }

  abbrev with_words : List Word → Loading
  with_words ws = loading (world ws) (record { serial = 0; from = 0 }) []

  words_changed : (change : List Word → Access (List Word)) → change words ≡ Found others
      → changed (with_words words) change ≡ Found (with_words others)
  words_changed change e = ap (λ (a : Access (List Word)). a >>= with_data (world words) 0 >>= λ y.
      Found (loading y (record { serial = 0; from = 0 }) [])) e

  pub byte_put : (at : ℕ) (z : ℤ) → InRange Byte z → with_number_at Byte words (pos at) z ≡ Found others
      → with_item o (with_words words) (byte_item at z) ≡ Found (with_words others)
  byte_put at z h e =
      ap (λ y. changed (with_words words) (with_numbers Byte (0 + at) (y ∷ []))) (byte_back z h)
      ∙ ap (λ n. changed (with_words words) (with_numbers Byte n (z ∷ []))) (let f : 0 + at ≡ at = omega arith in f)
      ∙ words_changed (with_numbers Byte at (z ∷ [])) (ap (λ (a : Access (List Word)). a >>= λ last. Found last) e)

  pub word_put : (at : ℕ) (z : ℤ) → InRange Int z → with_number_at Int words (pos at) z ≡ Found others
      → with_item o (with_words words) (word_item at z) ≡ Found (with_words others)
  word_put at z h e =
      ap (λ y. changed (with_words words) (with_numbers Int (0 + at) (y ∷ []))) (int_back z h)
      ∙ ap (λ n. changed (with_words words) (with_numbers Int n (z ∷ []))) (let f : 0 + at ≡ at = omega arith in f)
      ∙ words_changed (with_numbers Int at (z ∷ [])) (ap (λ (a : Access (List Word)). a >>= λ last. Found last) e)

  pub long_put : (at : ℕ) (z : ℤ) → at % 4 ≡ 0 → InRange Big z → with_number_at Big words (pos at) z ≡ Found others
      → with_item o (with_words words) (long_item at z) ≡ Found (with_words others)
  long_put at z even h e =
      let n = cast_unsigned w64 z in
      ap (λ y. changed (with_words words) (with_numbers Int (0 + at) (y ∷ cast_signed w32 (from_be_bytes w32
      (byte_at 3 n ∷ byte_at 2 n ∷ byte_at 1 n ∷ byte_at 0 n ∷ [])) ∷ []))) (high_back z h)
      ∙ ap (λ y. changed (with_words words) (with_numbers Int (0 + at) (high_part z ∷ y ∷ []))) (low_back z h)
      ∙ ap (λ n. changed (with_words words) (with_numbers Int n (high_part z ∷ low_part z ∷ [])))
      (let f : 0 + at ≡ at = omega arith in f)
      ∙ words_changed (with_numbers Int at (high_part z ∷ low_part z ∷ [])) (as_two words others at z even e)

-- ---- a text, which becomes a block behind those that are there

more_texts : (texts : List (List ℕ)) (t : List ℕ)
    → map (λ s. Some (Text s)) (texts ++ t ∷ []) ≡ map (λ s. Some (Text s)) texts ++ Some (Text t) ∷ []
more_texts [] t = refl
more_texts (s ∷ texts) t = ap (λ (h : Heap Block). Some (Text s) ∷ h) (more_texts texts t)

pub text_put : (o : Object) (outer : Outer) (words others : List Word) (texts : List (List ℕ)) (at : ℕ) (t : List ℕ)
    → IsUtf8 (encode_utf8_all t) → stored words (pos at) (Refer (Some (suc (length texts)))) ≡ Found others
    → with_item o (state outer words texts) (string_item at t) ≡ Found (state outer others (texts ++ t ∷ []))
text_put o outer words others texts at t h e =
    let old = map (λ s. Some (Text s)) texts in
    ap (λ (b : Access Block). b >>= opening.with_new (state outer words texts) at) (spelled t h)
    ∙ ap (λ n. changed (with_words o outer words others (old ++ Some (Text t) ∷ []) words)
    (λ ws. stored ws (pos n) (Refer (Some (suc (length old)))))) (let f : 0 + at ≡ at = omega arith in f)
    ∙ words_changed o outer words others (old ++ Some (Text t) ∷ []) (λ ws. stored ws (pos at) (Refer (Some (suc (length old)))))
    (ap (λ n. stored words (pos at) (Refer (Some (suc n)))) (map_long (λ s. Some (Text s)) texts) ∙ e)
    ∙ ap (λ (heap : Heap Block). Found (with_words o outer words others heap others)) (sym (more_texts texts t))
