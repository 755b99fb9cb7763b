-- What holds of the references of values.
use Rattle.std.specs.Prelude.{List}
use Rattle.limbo_types.specs.Types.{Ty}
use Rattle.limbo_layout.specs.Adts.{Def}
use Rattle.limbo_layout.specs.Layout.{Room, Laid}
use Rattle.limbo_layout.specs.Laying.{AllBelow}
use Rattle.value_frames.specs.Frames.{names_at}

-- Those of a value that has a layout stand in it.
abbrev pub NamesLieInside : Type 0
NamesLieInside = (defs : List Def) (t : Ty) (r : Room) → Laid defs t r → AllBelow r.size (names_at defs t)
