-- The type of the machine by which values of a type are laid out (dis(6), "Type section").
use Rattle.std.specs.Prelude.{ℕ, zero, suc, ◌+◌, ◌^◌, Bool, true, false, if◌then◌else◌, List, [], ◌∷◌, drop, length}
use Rattle.std.specs.List.{list_any}
use Rattle.limbo_layout.specs.Layout.{Room, map_of}
use Rattle.dis_file.specs.declared.types.TypeDesc.{TypeDesc}

-- A map's bits, from the top of a byte on, in which each word of a value has one.
abbrev pub bit : Bool → ℕ → ℕ
bit true n = 2 ^ n
bit false n = 0

abbrev pub bits : (most : ℕ) → List Bool → ℕ
bits zero bs = 0
bits (suc n) [] = 0
bits (suc n) (b ∷ bs) = bit b n + bits n bs

abbrev pub bytes : (tries : ℕ) → List Bool → List ℕ
bytes zero bs = []
bytes (suc n) [] = []
bytes (suc n) (b ∷ bs) = bits 8 (b ∷ bs) ∷ bytes n (drop 8 (b ∷ bs))

-- There is none where nothing refers.
abbrev pub map_bytes : List Bool → List ℕ
map_bytes bs = if list_any (λ b. b) bs then bytes (length bs) bs else []

abbrev pub desc_of : Room → TypeDesc
desc_of r = record { size = r.size; map = map_bytes (map_of r) }
