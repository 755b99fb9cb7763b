-- Bytes that are put over those of words, one by one.
use Rattle.std.proofs.Common.{◌≡◌, ℕ, zero, suc, ◌/◌, ◌%◌, List, [], ◌∷◌, Some, refl, sym, ap, ◌∙◌, if◌then◌else◌}
use Rattle.std.specs.Prelude.{slice_get, slice_set}
use Rattle.std.specs.Int.{w32, cast_signed}
use Rattle.dis_meaning.specs.Words.{Plain, Found, Wrong, ◌>>=◌, or_wrong, type_check, number_in, replaced, fits}
use Rattle.dis_meaning.specs.Numbers.{with_byte}
use Rattle.dis_memory.specs.Copies.{put_bytes}
use Rattle.dis_text_numbers.specs.Packed.{words_of}

word_there : (ns : List ℕ) (k w : ℕ) → slice_get ns k ≡ Some w → slice_get (words_of ns) k ≡ Some (Plain (cast_signed w32 w))
word_there [] k w e = absurd cc
word_there (n ∷ ns) zero w e = let same : n ≡ w = cc in ap (λ n. Some (Plain (cast_signed w32 n))) same
word_there (n ∷ ns) (suc k) w e = word_there ns k w e

word_set : (ns : List ℕ) (k v : ℕ) → slice_set (words_of ns) k (Plain (cast_signed w32 v)) ≡ words_of (slice_set ns k v)
word_set [] k v = refl
word_set (n ∷ ns) zero v = refl
word_set (n ∷ ns) (suc k) v = ap (λ ws. Plain (cast_signed w32 n) ∷ ws) (word_set ns k v)

pub put_step : (ns : List ℕ) (k b v w : ℕ) (bs : List ℕ) → slice_get ns (k / 4) ≡ Some w → cast_signed w32 v ≡ with_byte (cast_signed w32 w) (k % 4) b →
    put_bytes (words_of ns) k (b ∷ bs) ≡ put_bytes (words_of (slice_set ns (k / 4) v)) (suc k) bs
put_step ns k b v w bs there made =
    let old = cast_signed w32 w in
    let here = word_there ns (k / 4) w there in
    ap (λ o. or_wrong type_check o >>= number_in >>= (λ old. replaced (words_of ns) (k / 4) (Plain (with_byte old (k % 4) b))) >>= λ after. put_bytes after (suc k) bs) here
    ∙ ap (λ o. or_wrong type_check o >>= (λ o. if fits o (Plain (with_byte old (k % 4) b)) then Found (slice_set (words_of ns) (k / 4) (Plain (with_byte old (k % 4) b))) else Wrong type_check)
    >>= λ after. put_bytes after (suc k) bs) here
    ∙ ap (λ z. put_bytes (slice_set (words_of ns) (k / 4) (Plain z)) (suc k) bs) (sym made)
    ∙ ap (λ ws. put_bytes ws (suc k) bs) (word_set ns (k / 4) v)
