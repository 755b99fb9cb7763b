use Rattle.std.proofs.Common.{take}
use Rattle.limbo_layout.specs.Adts.{types_of}
use Rattle.limbo_layout.specs.View.{view_fields, view_defs}
use Rattle.limbo_members.specs.Tables.{AllNameIn}
use Rattle.limbo_members.proofs.naming.fields_name.Given as goal

abbrev pub invariant-loop-field : goal.invariant-loop-field
invariant-loop-field l = AllNameIn (view_defs l.defs) l.modules (types_of (view_fields (take l.field-index l.fields)))
