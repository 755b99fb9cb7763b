use Rattle.std.proofs.Common.{◌∙◌, ap, w64, ◌≡◌}
use Rattle.std.proofs.lemmas.Int.{to_z-of_z}
use Rattle.limbo_values.specs.Numbers.{wrapped, number_of, value_of, kind_of}
use Rattle.limbo_values.specs.Conversions.{number_in}
use Rattle.limbo_values.proofs.Wrapping.{wrapped_again}
use Rattle.limbo_values.proofs.Reading.{front_is}
use Rattle.dis_text_numbers.proofs.Digits.{kind_numbered, value_wrapped}
use Rattle.dis_text_numbers.proofs.codes.number_read.Goals as goal

pub returns : goal.returns
returns c =
    let kind = c.args.kind in
    let text = c.args.codes.now in
    let read = to_z-of_z w64 _ (record { sfits = c.read_decimal.type_inv }) ∙ c.read_decimal.ensures ∙ front_is text in
    let is : c.to_kind.result ≡ number_of kind (wrapped kind (number_in text)) =
    c.to_kind.ensures ∙ ap (λ z. number_of kind (wrapped kind z)) read ∙ ap (number_of kind) (wrapped_again kind (number_in text)) in
    record {
      number = ap value_of is ∙ value_wrapped kind (number_in text);
      kind = ap kind_of is ∙ kind_numbered kind (wrapped kind (number_in text));
    }
