-- The signature of a function: a number that its type's text has.
use Rattle.std.specs.Prelude.{◌≡◌, ℕ, ◌*◌, List, drop, bit_xor}
use Rattle.byteorder.specs.Endian.{little_number}
use Rattle.md5.specs.Md5.{md5}
use Rattle.limbo_types.specs.Types.{FnTy}
use Rattle.limbo_layout.specs.Adts.{Def}
use Rattle.link_sign.specs.TypeText.{IsText}

-- a word of a digest, its lowest byte first
abbrev pub word_of : List ℕ → ℕ → ℕ
word_of digest k = little_number 4 (drop (4 * k) digest)

-- The digest of a text in 32 bits: each of its four words changes the bits of the others.
unfoldable pub fold : List ℕ → ℕ
fold text =
    let digest = md5 text in
    bit_xor (bit_xor (bit_xor (word_of digest 0) (word_of digest 1)) (word_of digest 2)) (word_of digest 3)

-- what the text of the function's type folds to
pub record IsSignature (defs : List Def) (modules : List (List ℕ)) (f : FnTy) (sign : ℕ) : Type 0 where
  pub text : List ℕ
  pub is_text : IsText defs modules f text
  pub folded : sign ≡ fold text
