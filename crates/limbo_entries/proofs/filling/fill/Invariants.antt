use Rattle.std.proofs.Common.{◌≤◌, List, [], length}
use Rattle.limbo_declarations.specs.Rows.{Row}
use Rattle.limbo_entries.specs.declared.scope.Scope as code_scope
use Rattle.limbo_entries.specs.Growing.{IsGrown}
use Rattle.limbo_entries.proofs.filling.fill.Given as goal

abbrev pub invariant-loop-number : goal.invariant-loop-number
invariant-loop-number l = record {
  grown : (top : List Row) (outermost : code_scope.Scope) → IsGrown top l.fn.entries.items outermost [] 0
      → IsGrown top l.entries.items outermost l.scopes.items l.number;
  there : l.number ≤ length l.entries.items;
}
