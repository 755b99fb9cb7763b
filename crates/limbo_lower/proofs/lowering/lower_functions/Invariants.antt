use Rattle.std.proofs.Common.{◌≡◌, map, take}
use Rattle.limbo_layout.specs.View.{view_defs}
use Rattle.limbo_typed.specs.View.{view_function}
use Rattle.limbo_meaning.specs.Program.{routine_of}
use Rattle.core_code.specs.Statements.{function_of}
use Rattle.core_data.specs.View as core
use Rattle.limbo_lower.proofs.lowering.lower_functions.Given as goal

abbrev pub invariant-loop-f : goal.invariant-loop-f
invariant-loop-f l = map core.view_function l.lowered.items
    ≡ map (λ f. function_of (view_defs l.fn.extents) (routine_of (view_function f))) (take l.f-index l.functions)
