-- Arrays of bytes as strings, and strings as arrays of bytes (Limbo Language Reference, conversions).
use Rattle.std.specs.Prelude.{ℕ, pos, List, map, encode_utf8_all, unsigned_abs}
use Rattle.limbo_bytes.specs.Bytes.{characters}
use Rattle.limbo_meaning.specs.Values.{Value, Num, number_of}

-- `string b` of an array of bytes
abbrev pub string_of : List Value → List ℕ
string_of vs = characters 0 (map (λ v. unsigned_abs (number_of v)) vs)

-- `array of byte s`
abbrev pub bytes_of : List ℕ → List Value
bytes_of s = map (λ b. Num (pos b)) (encode_utf8_all s)
