-- A room of the code.
use Rattle.limbo_layout.specs.declared.room.Room.TheInside.{Inside}
use Rattle.limbo_layout.specs.Layout.{Room}
use Rattle.limbo_layout.specs.Laying.{IsRoom}

abbrev pub room_of : Inside → Room
room_of a = record { size = a.size; align = a.align; references = a.references.items }

abbrev pub IsSound : Inside → Type 0
IsSound a = IsRoom (room_of a)
