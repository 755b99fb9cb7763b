use Rattle.std.proofs.Common.{take}
use Rattle.limbo_types.specs.View.{view_tys}
use Rattle.limbo_layout.specs.Adts.{AllName}
use Rattle.limbo_layout.specs.View.{view_defs}
use Rattle.link_sign_rows.proofs.naming.+naming.Given as goal

abbrev pub invariant-all_name-loop-t : goal.invariant-all_name-loop-t
invariant-all_name-loop-t l = AllName (view_defs l.defs) l.modules (view_tys (take l.t-index l.ts))
