use Rattle.std.proofs.Common.{◌≡◌, take}
use Rattle.limbo_layout.specs.View.{view_defs}
use Rattle.limbo_members.proofs.copying.copy_defs.Given as goal

abbrev pub invariant-loop-def : goal.invariant-loop-def
invariant-loop-def l = view_defs l.copies.items ≡ view_defs (take l.def-index l.defs)
