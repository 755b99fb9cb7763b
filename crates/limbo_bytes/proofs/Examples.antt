-- Bytes read as strings, worked out.
use Rattle.std.proofs.Common.{◌≡◌, [], ◌∷◌, refl}
use Rattle.limbo_bytes.specs.Bytes.{characters}

-- a byte that begins nothing, behind one that is a character
bad_byte : characters 0 (97 ∷ 255 ∷ []) ≡ 97 ∷ 65533 ∷ []
unfolding lib.Utf8.encode Rattle.std.specs.Str.chars
bad_byte = refl

-- characters of two, three and four bytes, with one between them
longer : characters 0 (195 ∷ 169 ∷ 98 ∷ 226 ∷ 152 ∷ 186 ∷ 240 ∷ 159 ∷ 152 ∷ 128 ∷ []) ≡ 233 ∷ 98 ∷ 9786 ∷ 128512 ∷ []
unfolding lib.Utf8.encode Rattle.std.specs.Str.chars
longer = refl

-- one that is cut short, in front of a character
cut_short : characters 0 (226 ∷ 152 ∷ 97 ∷ []) ≡ 65533 ∷ 65533 ∷ 97 ∷ []
unfolding lib.Utf8.encode Rattle.std.specs.Str.chars
cut_short = refl

-- a surrogate and a spelling that is too long are none
none_such : characters 0 (237 ∷ 160 ∷ 128 ∷ 192 ∷ 128 ∷ []) ≡ 65533 ∷ 65533 ∷ 65533 ∷ 65533 ∷ 65533 ∷ []
unfolding lib.Utf8.encode Rattle.std.specs.Str.chars
none_such = refl
