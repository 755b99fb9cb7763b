use Rattle.std.proofs.Common.{◌∙◌}
use Rattle.dis_stores.proofs.Written.{on_ok}
use Rattle.dis_text_numbers.proofs.Lossy.{read_once}
use Rattle.dis_text_numbers.proofs.codes.read_bytes.Goals as goal

pub returns : goal.returns
returns c =
    on_ok c.codes_of.result
    (λ codes e. e ∙ c.as_slice.ensures ∙ read_once c.args.bytes.now c.in_ok-text.text c.in_ok-text.ensures) c.codes_of.ensures
