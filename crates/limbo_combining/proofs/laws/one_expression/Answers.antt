use Rattle.limbo_combining.proofs.Combined.{combined_once, operated_once, bytes_are_once}
use Rattle.limbo_combining.proofs.laws.one_expression.Goals as goal

pub returns : goal.returns
returns c = record { between = combined_once; before = operated_once; bytes = bytes_are_once }
