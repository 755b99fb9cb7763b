use Rattle.std.proofs.Common.{◌≡◌, ◌++◌, List, map, drop}
use Rattle.limbo_types.specs.View.{view_ty}
use Rattle.limbo_layout.specs.Adts.{Def}
use Rattle.core_code.specs.Terms.{types_in}
use Rattle.core_writing.specs.Operands.{terms_in}
use Rattle.core_writing.proofs.types.types_in.Given as goal

abbrev pub invariant-loop-operand : goal.invariant-loop-operand
invariant-loop-operand l =
    (defs : List Def) → map view_ty l.types.items ++ types_in defs (terms_in (drop l.operand-index l.operands))
    ≡ types_in defs (terms_in l.operands)
