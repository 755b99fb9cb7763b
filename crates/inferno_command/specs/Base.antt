-- The base name of a file.
use Rattle.std.specs.Prelude.{ℕ, ◌-◌, Bool, ◌==◌, nat_le, if◌then◌else◌, List, length, take, codes, encode_utf8_all, nat_eq}
use Rattle.std.specs.List.{after_last, ends_with}

-- what follows the last `/` of a path, or all of it where there is none
abbrev pub last_name : List ℕ → List ℕ
last_name path = after_last (λ c. c == 47) path

-- a file's name without a last `.b` or `.dis`
abbrev pub without_ending : List ℕ → List ℕ
without_ending name =
    if ends_with nat_eq name (codes ".b") then take (length name - 2) name
    else (if ends_with nat_eq name (codes ".dis") then take (length name - 4) name else name)

-- the name by which a program knows the file
abbrev pub base_name : List ℕ → List ℕ
base_name path = without_ending (last_name path)

-- the base name takes at most 250 bytes of UTF-8
abbrev pub has_short_name : List ℕ → Bool
has_short_name path = nat_le (length (encode_utf8_all (base_name path))) 250
