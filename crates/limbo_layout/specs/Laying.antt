-- Rooms by a table of the adts' rooms.
use Rattle.std.specs.Prelude.{◌≡◌, ℕ, ◌<◌, ◌≤◌, ◌⊎◌, List, [], ◌∷◌, map, length, Option, Some, None, slice_index_or}
use Rattle.limbo_types.specs.Types.{Ty, Tys, Byte, Int, Big, Nothing, Tuple, Adt, NoTys, MoreTys}
use Rattle.limbo_layout.specs.Adts.{Def, Has, held}
use Rattle.limbo_layout.specs.Layout.{Room, Laid, nothing, number, reference, in_order, limit}

abbrev pub room_at : List Room → ℕ → Room
room_at rooms n = slice_index_or rooms n nothing

abbrev mutual
  pub room : List Room → Ty → Room
  room rooms Byte = number 1
  room rooms Int = number 4
  room rooms Big = number 8
  room rooms Nothing = nothing
  room rooms (Tuple ts) = in_order (all_rooms rooms ts)
  room rooms (Adt n) = room_at rooms n
  room rooms t = reference

  pub all_rooms : List Room → Tys → List Room
  all_rooms rooms NoTys = []
  all_rooms rooms (MoreTys t ts) = room rooms t ∷ all_rooms rooms ts

-- the rooms of types in a row
abbrev pub rooms_of : List Room → List Ty → List Room
rooms_of rooms ts = map (room rooms) ts

-- an adt has its room, of at most the limit
pub record IsLaid (defs : List Def) (rooms : List Room) (n : ℕ) : Type 0 where
  pub laid : Laid defs (Adt n) (room_at rooms n)
  pub fits : (room_at rooms n).size ≤ limit

-- each adt has
pub record AreLaid (defs : List Def) (rooms : List Room) : Type 0 where
  pub same_length : length rooms ≡ length defs
  pub each : (n : ℕ) → n < length defs → IsLaid defs rooms n

-- What is true of each room: it is within the limit, its alignment is a number's, and its references lie in it.
abbrev pub AllBelow : ℕ → List ℕ → Type 0
AllBelow n [] = Unit {0}
AllBelow n (m ∷ ms) = (m < n) × AllBelow n ms

pub record IsRoom (r : Room) : Type 0 where
  pub within : r.size ≤ limit
  pub align : (r.align ≡ 1) ⊎ ((r.align ≡ 4) ⊎ (r.align ≡ 8))
  pub inside : AllBelow r.size r.references
