-- A room of the code.
use Rattle.std.specs.Prelude.{◌≡◌, ◌≤◌, ◌⊎◌}
use Rattle.limbo_layout.specs.Layout.{Room}
use Rattle.limbo_layout.specs.Laying.{AllBelow}
use Rattle.value_rooms.specs.Cut.{most}
use Rattle.value_rooms.specs.declared.room.Room.TheInside.{Inside}

abbrev pub room_of : Inside → Room
room_of a = record { size = a.size; align = a.align; references = a.references.items }

-- It is told as far as rooms are, its alignment is a number's, and its references lie in it.
pub record IsSound (a : Inside) : Type 0 where
  pub within : a.size ≤ most
  pub align : (a.align ≡ 1) ⊎ ((a.align ≡ 4) ⊎ (a.align ≡ 8))
  pub inside : AllBelow a.size a.references.items
