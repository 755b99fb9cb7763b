use Rattle.std.proofs.Common.{map, ◌∙◌}
use Rattle.std.specs.Prelude.{◌≤ℤ◌}
use Rattle.std.specs.List.{filter_map}
use Rattle.limbo_heads.specs.Labels.{label_in, number_in}
use Rattle.limbo_heads.proofs.Labelled.{found_apart}
use Rattle.limbo_heads.proofs.apart.numbers_apart.Goals as goal

pub returns : goal.returns
returns c =
    found_apart ◌≤ℤ◌ c.deref.result.now (filter_map (label_in number_in) (map (λ p. p.now) c.args.patterns.now))
    c.in_ok-overlapping_numbers.field-0 c.is_none.result (c.deref.ensures.value ∙ c.in_ok-numbers.ensures)
    c.in_ok-overlapping_numbers.ensures c.is_none.ensures
