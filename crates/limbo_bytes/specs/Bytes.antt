-- Bytes as strings and strings as bytes (Limbo Language Reference, conversions; UTF-8 is RFC 3629).
use Rattle.std.specs.Prelude.{chars, slice_get, ℕ, zero, suc, ◌-◌, Bool, true, false, ◌==◌, ◌&&◌, List, [], ◌∷◌, length, Option, Some, None}
use Rattle.std.specs.Prelude.{encode_utf8, if◌then◌else◌}
use Rattle.std.specs.Str.{all_scalars}
use Rattle.inf_text.specs.Lossy.{ReadsLossy}

-- The first list is the front of the second.
abbrev pub is_front : List ℕ → List ℕ → Bool
is_front [] bs = true
is_front (a ∷ more) [] = false
is_front (a ∷ more) (b ∷ bs) = (a == b) && is_front more bs

-- This character, where bytes begin with its spelling.
abbrev pub spelled : List ℕ → Option ℕ → Option ℕ
spelled bs None = None
spelled bs (Some c) = if all_scalars (c ∷ []) && is_front (encode_utf8 c) bs then Some c else None

-- The character with which bytes begin: the first that they would spell, if its spelling is there.
abbrev pub first_character : List ℕ → Option ℕ
first_character bs = spelled bs (slice_get (chars bs) 0)

-- The bytes from the front: so many belong to a character that is told already; the spelling of a character is that character, and a byte
-- that begins none is U+FFFD.
abbrev mutual
  pub characters : (told : ℕ) → List ℕ → List ℕ
  characters n [] = []
  characters zero (b ∷ bs) =
      elim (first_character (b ∷ bs)) [ None ↦ 65533 ∷ characters 0 bs | Some c ↦ c ∷ characters (length (encode_utf8 c) - 1) bs ]
  characters (suc n) (b ∷ bs) = characters n bs

-- So bytes are read as those are that may be ill-formed.
abbrev pub BytesAreRead : Type 0
BytesAreRead = (bs : List ℕ) → ReadsLossy bs (characters 0 bs)
