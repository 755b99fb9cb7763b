-- What is known of the code's extents.
use Rattle.std.specs.Prelude.{◌≡◌, ◌≤◌, List}
use Rattle.limbo_layout.specs.declared.def.AdtDef.{AdtDef}
use Rattle.limbo_layout.specs.View.{view_defs}
use Rattle.value_extents.specs.declared.extent.Extent.TheInside as extent
use Rattle.value_extents.specs.declared.extents.Extents.TheInside as extents
use Rattle.value_extents.specs.Extent.{Extent, most, table_of}

abbrev pub extent_of : extent.Inside → Extent
extent_of e = record { size = e.size; align = e.align; count = e.count }

abbrev pub inside_of : Extent → extent.Inside
inside_of e = record { size = e.size; align = e.align; count = e.count }

pub record IsSmall (e : extent.Inside) : Type 0 where
  pub size : e.size ≤ most
  pub align_above : 1 ≤ e.align
  pub align_below : e.align ≤ 8
  pub count : e.count ≤ most

abbrev pub defs_in : extents.Inside → List AdtDef
defs_in s = s.defs.now

-- the table is that of the definitions
pub record IsMade (s : extents.Inside) : Type 0 where
  pub table : s.table.items ≡ table_of (view_defs s.defs.now)
