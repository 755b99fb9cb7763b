use Rattle.std.proofs.Common.{rules, ◌≡◌, true, sym, ◌∙◌, subst, encode_utf8_all}
use Rattle.std.specs.Str.{all_scalars}
use Rattle.std.proofs.lemmas.Str.{encodes_same}
use Rattle.inf_text.proofs.text.Text.from_utf8.Goals as goal

pub returns-in_ok-chars-in-Ok-clause-characters : goal.returns-in_ok-chars-in-Ok-clause-characters
returns-in_ok-chars-in-Ok-clause-characters c =
    let chars = c.in_ok-chars-in-Ok.chars.items in
    let spelled : encode_utf8_all chars ≡ c.args.bytes.now = search rules in
    let some = c.in-Ok.ensures.cases.1 in
    subst (λ s. all_scalars s ≡ true) (encodes_same some.0 chars (some.1.1 ∙ sym spelled)) some.1.0
