use Rattle.std.proofs.Common.{◌∙◌, ap, w64}
use Rattle.std.proofs.lemmas.Int.{to_z-of_z}
use Rattle.limbo_values.specs.Numbers.{wrapped, number_of}
use Rattle.limbo_values.specs.Conversions.{number_in}
use Rattle.limbo_values.proofs.Wrapping.{wrapped_again}
use Rattle.limbo_values.proofs.Reading.{front_is}
use Rattle.limbo_values.proofs.number.number_of_text.Goals as goal

pub returns : goal.returns
returns c =
    let kind = c.args.kind in
    let read = to_z-of_z w64 _ (record { sfits = c.read_decimal.type_inv }) ∙ c.read_decimal.ensures ∙ front_is c.args.text.now in
    c.to_kind.ensures ∙ ap (λ z. number_of kind (wrapped kind z)) read
    ∙ ap (number_of kind) (wrapped_again kind (number_in c.args.text.now))
