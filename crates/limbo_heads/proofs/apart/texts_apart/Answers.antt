use Rattle.std.proofs.Common.{map, ap, ◌∙◌}
use Rattle.std.specs.List.{filter_map}
use Rattle.limbo_cases.specs.Texts.{TextAtMost, text_label}
use Rattle.limbo_heads.specs.Labels.{label_in, text_in}
use Rattle.limbo_heads.proofs.Labelled.{found_apart}
use Rattle.limbo_heads.proofs.apart.texts_apart.Goals as goal

pub returns : goal.returns
returns c =
    found_apart TextAtMost (map text_label c.deref.result.now) (filter_map (label_in text_in) (map (λ p. p.now) c.args.patterns.now))
    c.in_ok-overlapping_texts.field-0 c.is_none.result (ap (map text_label) c.deref.ensures.value ∙ c.in_ok-strings.ensures)
    c.in_ok-overlapping_texts.ensures c.is_none.ensures
