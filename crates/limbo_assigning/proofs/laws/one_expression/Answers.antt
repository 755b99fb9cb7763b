use Rattle.limbo_assigning.proofs.Told.{assigned_once, copied_once}
use Rattle.limbo_assigning.proofs.laws.one_expression.Goals as goal

pub returns : goal.returns
returns c = record { assigned = assigned_once; copied = copied_once }
