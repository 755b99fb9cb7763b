use Rattle.limbo_layout.specs.View.{view_defs}
use Rattle.link_sign_rows.proofs.Named.{NamedBelow}
use Rattle.link_sign_rows.proofs.naming.are_named.Given as goal

abbrev pub invariant-loop-def : goal.invariant-loop-def
invariant-loop-def l = NamedBelow (view_defs l.defs) l.modules l.def-index
