-- How bytes that may be ill-formed are read as a text.
use Rattle.std.specs.Prelude.{◌≡◌, ℕ, List, [], ◌∷◌, ◌++◌, encode_utf8, encode_utf8_all, true}
use Rattle.std.specs.Char.{IsScalar}
use Rattle.std.specs.Str.{StartsWithNoChar, all_scalars}

-- Bytes are read from the front: the spelling of a character gives that character, and a byte that begins no spelling
-- gives U+FFFD.
pub data ReadsLossy : List ℕ → List ℕ → Type 0 where
  Nothing : ReadsLossy [] []
  Character : (c : ℕ) (rest text : List ℕ) → IsScalar c → ReadsLossy rest text → ReadsLossy (encode_utf8 c ++ rest) (c ∷ text)
  BadByte : (byte : ℕ) (rest text : List ℕ) → StartsWithNoChar (byte ∷ rest) → ReadsLossy rest text
      → ReadsLossy (byte ∷ rest) (65533 ∷ text)

-- A text has grown by the characters that the bytes spell.
pub record AddsSpelled (old new bytes : List ℕ) : Type 0 where
  pub chars : List ℕ
  pub characters : all_scalars chars ≡ true
  pub spelled : encode_utf8_all chars ≡ bytes
  pub added : new ≡ old ++ chars
