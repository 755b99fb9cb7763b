-- The rooms of adts that programs count with, round by round, are their layouts.
use Rattle.std.specs.Prelude.{◌≡◌, ◌%◌, List, length}
use Rattle.limbo_types.specs.Types.{Ty}
use Rattle.limbo_layout.specs.Adts.{Def, Has}
use Rattle.limbo_layout.specs.Layout.{Room, Laid, AllLaid, nothing, in_order}
use Rattle.limbo_layout.specs.Laying.{room, rooms_of}
use Rattle.limbo_layout.specs.Laws.{Placed, places, AreApart}
use Rattle.limbo_meaning.specs.Operations.{rooms_after, size_of}

-- The rooms of all adts, after as many rounds as there are adts.
abbrev pub rooms_in : List Def → List Room
rooms_in defs = rooms_after defs (length defs)

-- Where values of these types stand, one behind the other.
abbrev pub places_of : List Def → List Ty → List Placed
places_of defs ts = places nothing (rooms_of (rooms_in defs) ts)

pub record RoundsGiveRooms : Type 0 where
  -- a type that has a layout has it as its room, and as many bytes as that takes
  pub rooms : (defs : List Def) (t : Ty) (r : Room) → Laid defs t r → room (rooms_in defs) t ≡ r
  pub sizes : (defs : List Def) (t : Ty) (r : Room) → Laid defs t r → size_of defs t ≡ r.size
  -- so have types in a row
  pub rows : (defs : List Def) (ts : List Ty) (rs : List Room) → AllLaid defs ts rs → rooms_of (rooms_in defs) ts ≡ rs
  -- values of such types stand at multiples of their alignments, and none in the room of another
  pub aligned : (defs : List Def) (ts : List Ty) (rs : List Room) (p : Placed) →
      AllLaid defs ts rs → Has (places_of defs ts) p → p.at % p.room.align ≡ 0
  pub apart : (defs : List Def) (ts : List Ty) → AreApart 0 (in_order (rooms_of (rooms_in defs) ts)).size (places_of defs ts)
