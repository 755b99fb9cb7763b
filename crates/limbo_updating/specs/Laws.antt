-- What holds of assignments with an operator.
use Rattle.std.specs.Prelude.{◌≡◌}
use Rattle.limbo_tree.specs.declared.operators.AssignOp.{AssignOp}
use Rattle.limbo_typed.specs.Typed.{Expr}
use Rattle.limbo_updating.specs.Updating.{Updates}

abbrev pub OneUpdate : Type 0
OneUpdate = (o : AssignOp) (place value e f : Expr) → Updates o place value e → Updates o place value f → e ≡ f
