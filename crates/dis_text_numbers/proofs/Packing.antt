-- An array of bytes, as it is made.
use Rattle.std.proofs.Common.{◌≡◌, ℕ, ◌+◌, ◌*◌, ◌/◌, ◌%◌, ◌≤◌, Bool, true, false, ◌&&◌, List, [], map, length, replicate, None, pos, refl, sym, ap, ◌∙◌, arith, if◌then◌else◌}
use Rattle.std.specs.Prelude.{◌==◌, nat_le}
use Rattle.std.specs.List.{range_with_len}
use Rattle.std.proofs.Math.Nat.{zero-div}
use Rattle.std.proofs.lemmas.Bool.{le-leb}
use Rattle.dis_file.specs.References.{marks}
use Rattle.dis_meaning.specs.Words.{Plain, Refer, Found, Raises, ◌>>=◌}
use Rattle.dis_memory.specs.Blocks.{Array, blank_word, blank_array, bytes_for, words_for, most_bytes}
use Rattle.dis_memory.specs.Copies.{put_bytes}
use Rattle.dis_memory.specs.Raising.{large_text}
use Rattle.dis_memory.specs.Strings.{array_of, byte_type, with_bytes}
use Rattle.dis_blocks.proofs.Ranges.{zero_words}
use Rattle.dis_text_numbers.specs.Packed.{words_of}

no_marks : (k : ℕ) → marks [] k ≡ false
no_marks k = ap (λ n. n % 2 == 1) (zero-div _)

-- Each word of it is plain.
blank_byte : (k : ℕ) → blank_word byte_type k ≡ Plain (pos 0)
blank_byte k = go ((4 * k) % 1 % 4 == 0) (marks [] ((4 * k) % 1 / 4)) (no_marks ((4 * k) % 1 / 4))
  where
    go : (a b : Bool) → b ≡ false → (if a && b then Refer None else Plain (pos 0)) ≡ Plain (pos 0)
    go true true e = absurd cc
    go true false e = refl
    go false b e = refl

pub packed_is : (bs ns : List ℕ) (count : ℕ) → length bs ≤ most_bytes → count ≡ (length bs + 3) / 4 → put_bytes (words_of (replicate count 0)) 0 bs ≡ Found (words_of ns) →
    array_of bs ≡ Found (Array byte_type (length bs) (words_of ns))
packed_is bs ns count small many put =
    let n = length bs in
    let fits : nat_le (bytes_for byte_type n) most_bytes ≡ true = le-leb (1 * n) 268435456 (omega (arith, small)) in
    let words : words_for byte_type n ≡ count = omega (arith, many) in
    ap (λ b. (if b then Found (blank_array byte_type n) else Raises large_text) >>= with_bytes bs) fits
    ∙ ap (λ k. put_bytes (map (blank_word byte_type) (range_with_len 0 k)) 0 bs >>= λ after. Found (Array byte_type n after)) words
    ∙ ap (λ ws. put_bytes ws 0 bs >>= λ after. Found (Array byte_type n after)) (sym (zero_words byte_type count (λ k lt. blank_byte k)))
    ∙ ap (λ a. a >>= λ after. Found (Array byte_type n after)) put
