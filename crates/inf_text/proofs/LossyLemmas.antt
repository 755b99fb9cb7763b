-- Reading bytes that may be ill-formed, a part after the other.
use Rattle.std.proofs.Common.{Bool, false, ◌&&◌, refl, ◌≡◌, ℕ, ◌+◌, ◌<◌, List, [], ◌∷◌, ◌++◌, length, take, drop, true, sym, ◌∙◌, ap, subst, arith, append_assoc, length-append}
use Rattle.std.specs.Prelude.{encode_utf8, encode_utf8_all, IsUtf8}
use Rattle.std.specs.Str.{all_scalars, IsValidUpTo, StartsWithNoChar}
use Rattle.std.proofs.lemmas.List.{take-append-drop, append-nil, length-take-le}
use lib.Utf8.{scalar}
use Rattle.std.proofs.lemmas.Str.{IsUtf8-append, IsUtf8-encode, length-le-encodes}
use Rattle.std.proofs.Math.Seq.{take-append-add, take-append_seam}
use Rattle.inf_text.specs.Lossy.{ReadsLossy, Nothing, Character, BadByte}

both : (x y : Bool) → (x && y) ≡ true → (x ≡ true) × (y ≡ true)
both true y e = (refl, e)
both false y e = cc

-- well-formed bytes in front are read as their characters
pub reads_front : (cs rest text : List ℕ) → all_scalars cs ≡ true → ReadsLossy rest text → ReadsLossy (encode_utf8_all cs ++ rest) (cs ++ text)
reads_front [] rest text scalars reads = reads
reads_front (c ∷ cs) rest text scalars reads =
    let each = both (scalar c) (all_scalars cs) scalars in
    let P : List ℕ → Type 0 = λ bytes. ReadsLossy bytes (c ∷ (cs ++ text)) in
    subst P (sym (append_assoc (encode_utf8 c) (encode_utf8_all cs) rest))
    (Character c (encode_utf8_all cs ++ rest) (cs ++ text) each.0 (reads_front cs rest text each.1 reads))

-- well-formed bytes are read as their characters
pub reads_all : (cs : List ℕ) → all_scalars cs ≡ true → ReadsLossy (encode_utf8_all cs) cs
reads_all cs scalars =
    let P : List ℕ → Type 0 = λ bytes. ReadsLossy bytes cs in
    let Q : List ℕ → Type 0 = λ text. ReadsLossy (encode_utf8_all cs ++ []) text in
    subst P (append-nil (encode_utf8_all cs)) (subst Q (append-nil cs) (reads_front cs [] [] scalars Nothing))

-- a spelling takes a byte at least
takes_bytes : (c : ℕ) → 0 < length (encode_utf8 c)
takes_bytes c = omega (arith, length-le-encodes (c ∷ []), length-append (encode_utf8 c) [])

-- behind the longest well-formed front no character begins
pub no_char_behind : (bytes : List ℕ) (n : ℕ) → IsValidUpTo bytes n → StartsWithNoChar (drop n bytes)
no_char_behind bytes n valid c rest scalar_c begins =
    let short : n < length bytes = valid.short in
    let front_length : length (take n bytes) ≡ n = length-take-le n bytes (omega arith) in
    let whole : bytes ≡ take n bytes ++ (encode_utf8 c ++ rest) = sym (take-append-drop n bytes) ∙ ap (λ l. take n bytes ++ l) begins in
    let longer : take (n + length (encode_utf8 c)) bytes ≡ take n bytes ++ encode_utf8 c =
    ap (take (n + length (encode_utf8 c))) whole
    ∙ ap (λ k. take (k + length (encode_utf8 c)) (take n bytes ++ (encode_utf8 c ++ rest))) (sym front_length)
    ∙ take-append-add (take n bytes) (encode_utf8 c ++ rest) (length (encode_utf8 c))
    ∙ ap (λ l. take n bytes ++ l) (take-append_seam (encode_utf8 c) rest) in
    let further : n < n + length (encode_utf8 c) = omega (arith, takes_bytes c) in
    valid.longest (n + length (encode_utf8 c)) further (subst IsUtf8 (sym longer) (IsUtf8-append (take n bytes) (encode_utf8 c) valid.front (IsUtf8-encode c scalar_c)))

-- a byte that begins no spelling gives U+FFFD behind the characters in front of it
pub reads_behind : (cs behind text : List ℕ) → all_scalars cs ≡ true → 0 < length behind → StartsWithNoChar behind → ReadsLossy (drop 1 behind) text → ReadsLossy (encode_utf8_all cs ++ behind) (cs ++ (65533 ∷ text))
reads_behind cs [] text scalars some none reads = absurd (omega arith)
reads_behind cs (byte ∷ rest) text scalars some none reads = reads_front cs (byte ∷ rest) (65533 ∷ text) scalars (BadByte byte rest text none reads)
