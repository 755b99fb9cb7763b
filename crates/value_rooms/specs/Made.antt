-- What is known of the rooms that the code has.
use Rattle.std.specs.Prelude.{◌≡◌, List, map}
use Rattle.limbo_types.specs.Types as ty
use Rattle.limbo_types.specs.View.{view_ty}
use Rattle.limbo_layout.specs.declared.def.AdtDef.{AdtDef}
use Rattle.limbo_layout.specs.Adts.{parts as parts_in}
use Rattle.limbo_layout.specs.View.{view_defs}
use Rattle.value_rooms.specs.declared.rooms.Rooms.TheInside as rooms
use Rattle.value_rooms.specs.Names.{names_of, view_names}
use Rattle.value_rooms.specs.Tables.{table_of, view_parts}

abbrev pub defs_in : rooms.Inside → List AdtDef
defs_in s = s.defs.now

-- It has the parts of each adt, the room that they take, and where in them references are.
pub record IsMade (s : rooms.Inside) : Type 0 where
  pub nothing : view_ty s.nothing ≡ ty.Nothing
  pub parts : view_parts s.parts.items ≡ map parts_in (view_defs s.defs.now)
  pub table : s.table.items ≡ table_of (map parts_in (view_defs s.defs.now))
  pub names : view_names s.names.items ≡ names_of (table_of (map parts_in (view_defs s.defs.now))) (map parts_in (view_defs s.defs.now))
