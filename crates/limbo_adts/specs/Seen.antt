-- The table of the code.
use Rattle.std.specs.Prelude.{length}
use Rattle.limbo_layout.specs.Adts.{AreNamed}
use Rattle.limbo_layout.specs.Laying.{AreLaid}
use Rattle.limbo_layout.specs.View.{view_defs}
use Rattle.limbo_adts.specs.declared.adts.Adts.TheInside.{Inside}
use Rattle.limbo_adts.specs.Closed.{AreClosed, rows}
use Rattle.limbo_adts.specs.Table.{Table}

abbrev pub table_of : Inside → Table
table_of a = record { adts = a.defs.items; modules = a.modules.items }

-- each number names something, each adt has its room, and the lists say what each may come to hold
pub record IsMade (a : Inside) : Type 0 where
  pub named : AreNamed (view_defs a.defs.items) (length a.modules.items)
  pub laid : AreLaid (view_defs a.defs.items) a.rooms.items
  pub closed : AreClosed (view_defs a.defs.items) (rows a.closed.items)
