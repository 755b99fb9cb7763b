use Rattle.std.proofs.Common.{◌≡◌, drop}
use Rattle.limbo_types.specs.View.{view_tys}
use Rattle.limbo_layout.specs.View.{view_defs}
use Rattle.limbo_allowed.specs.Choosing.{all_named}
use Rattle.limbo_members.proofs.naming.+naming.Given as goal

abbrev pub invariant-all_name-loop-t : goal.invariant-all_name-loop-t
invariant-all_name-loop-t l =
    all_named (view_defs l.defs) l.modules (view_tys (drop l.t-index l.ts)) ≡ all_named (view_defs l.defs) l.modules (view_tys l.ts)
