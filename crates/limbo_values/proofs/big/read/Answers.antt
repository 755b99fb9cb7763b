use Rattle.std.proofs.Common.{◌∙◌, w64}
use Rattle.std.proofs.lemmas.Int.{to_z-of_z}
use Rattle.limbo_values.proofs.Reading.{front_is}
use Rattle.limbo_values.proofs.big.read.Goals as goal

pub returns : goal.returns
returns c = to_z-of_z w64 _ (record { sfits = c.read_decimal.type_inv }) ∙ c.read_decimal.ensures ∙ front_is c.args.text.now
