use Rattle.std.proofs.Common.{take}
use Rattle.limbo_types.specs.View.{tys_of}
use Rattle.limbo_layout.specs.Adts.{AllName, types_of}
use Rattle.limbo_layout.specs.View.{view_defs, view_fields}
use Rattle.link_sign_rows.proofs.naming.fields_name.Given as goal

abbrev pub invariant-loop-field : goal.invariant-loop-field
invariant-loop-field l = AllName (view_defs l.defs) l.modules (tys_of (types_of (view_fields (take l.field-index l.fields))))
