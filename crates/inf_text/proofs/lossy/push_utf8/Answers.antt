use Rattle.std.proofs.Common.{◌≡◌, ◌∙◌, sym, rules, ap, ◌++◌}
use Rattle.std.specs.Prelude.{encode_utf8_all}
use Rattle.std.proofs.lemmas.Result.{IfOk-weaker}
use Rattle.std.proofs.lemmas.Str.{encodes_same}
use Rattle.inf_text.proofs.lossy.push_utf8.Goals as goal

pub returns : goal.returns
returns c =
    let utf8 = c.requires in
    let items = c.in_ok-chars-in-Ok.chars.items in
    let spelled : encode_utf8_all items ≡ c.args.bytes.now = search rules in
    let same : items ≡ utf8.0 = encodes_same items utf8.0 (spelled ∙ sym utf8.1.1) in
    IfOk-weaker c.push_all.result _ _
    (λ _ pushed. record {
      chars = utf8.0;
      characters = utf8.1.0;
      spelled = utf8.1.1;
      added = pushed ∙ ap (λ l. c.args.text.now ++ l) (c.as_slice.ensures.value ∙ same);
    })
    c.push_all.ensures.ok
