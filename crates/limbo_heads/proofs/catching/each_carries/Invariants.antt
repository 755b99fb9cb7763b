use Rattle.std.proofs.Common.{ℕ, ◌<◌, ◌≡◌, map, Some, slice_get}
use Rattle.limbo_types.specs.View.{view_ty}
use Rattle.limbo_typed.specs.declared.stmt.HandlerPattern.{HandlerPattern}
use Rattle.limbo_context.specs.View.{view_context}
use Rattle.limbo_stmt_values.specs.limbo_stating.Handlers.{Carries}
use Rattle.limbo_heads.proofs.catching.each_carries.Given as goal

abbrev pub invariant-loop-pattern : goal.invariant-loop-pattern
invariant-loop-pattern l =
    (k : ℕ) (z : HandlerPattern) → k < l.pattern-index → slice_get l.patterns k ≡ Some z
    → Carries (view_context l.context) z (map view_ty l.values)
