use Rattle.std.proofs.Common.{ℕ, ◌<◌, ◌≡◌, Some}
use Rattle.std.specs.Prelude.{slice_get}
use Rattle.limbo_layout.specs.Adts.{Def, field_types}
use Rattle.limbo_layout.specs.View.{view_defs}
use Rattle.limbo_members.specs.Tables.{AllNameIn}
use Rattle.limbo_members.proofs.naming.are_named.Given as goal

abbrev pub invariant-loop-def : goal.invariant-loop-def
invariant-loop-def l =
    (n : ℕ) (d : Def) → n < l.def-index → slice_get (view_defs l.defs) n ≡ Some d → AllNameIn (view_defs l.defs) l.modules (field_types d)
