use Rattle.std.proofs.Common.{◌≡◌, map, take}
use Rattle.limbo_typed.specs.View.{view_var}
use Rattle.typed_lower.specs.Statements.{number_kind}
use Rattle.slot_writing.proofs.lowering.kinds_of.Given as goal

abbrev pub invariant-loop-variable : goal.invariant-loop-variable
invariant-loop-variable l = l.kinds.items ≡ map (λ v. number_kind v.ty) (map view_var (take l.variable-index l.variables))
