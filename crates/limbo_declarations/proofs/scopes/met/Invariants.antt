use Rattle.std.proofs.Common.{ℕ, ◌<◌, List}
use Rattle.limbo_declarations.specs.Names.{IsAt, IsIndex}
use Rattle.limbo_declarations.specs.View.{texts_of}
use Rattle.limbo_declarations.proofs.scopes.met.Given as goal

abbrev pub invariant-loop-field : goal.invariant-loop-field
invariant-loop-field l =
    (ns : List (List ℕ)) → IsIndex l.members ns → (i j : ℕ) (name : List ℕ) → j < l.field-index → IsAt ns i name → IsAt (texts_of l.fields) j name → ⊥
