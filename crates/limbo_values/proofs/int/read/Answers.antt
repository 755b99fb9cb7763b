use Rattle.std.proofs.Common.{◌∙◌, ap, w32, w64}
use Rattle.std.proofs.lemmas.Int.{to_z-of_z}
use Rattle.limbo_values.specs.declared.number.Kind.TheVariants.{Int}
use Rattle.limbo_values.specs.Numbers.{wrapped}
use Rattle.limbo_values.specs.Conversions.{number_in}
use Rattle.limbo_values.proofs.Wrapping.{wrapped_again}
use Rattle.limbo_values.proofs.Reading.{front_is}
use Rattle.limbo_values.proofs.int.read.Goals as goal

pub returns : goal.returns
returns c =
    to_z-of_z w32 _ (record { sfits = c.wrap.type_inv }) ∙ c.wrap.ensures
    ∙ ap (wrapped Int) (to_z-of_z w64 _ (record { sfits = c.read_decimal.type_inv }) ∙ c.read_decimal.ensures ∙ front_is c.args.text.now)
    ∙ wrapped_again Int (number_in c.args.text.now)
