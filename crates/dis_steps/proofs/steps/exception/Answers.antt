use Rattle.std.proofs.Common.{◌≡◌, ◌∙◌, sym, rules}
use Rattle.std.specs.Prelude.{encode_utf8_all}
use Rattle.std.proofs.lemmas.Str.{encodes_same}
use Rattle.dis_places.specs.Words.{raised_text}
use Rattle.dis_steps.proofs.Spelled.{exceptions_ascii}
use Rattle.dis_steps.proofs.steps.exception.Goals as goal

pub returns : goal.returns
returns c =
    let spelled : encode_utf8_all c.in_ok-chars.chars.items ≡ raised_text c.args.raise = search rules in
    c.from_vec.ensures ∙ encodes_same _ _ (spelled ∙ sym (exceptions_ascii c.args.raise))
