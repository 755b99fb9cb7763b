use Rattle.std.proofs.Common.{◌≡◌, map, take}
use Rattle.std.specs.List.{filter_map}
use Rattle.limbo_heads.specs.Labels.{label_in, number_in}
use Rattle.limbo_heads.proofs.apart.number_labels.Given as goal

abbrev pub invariant-loop-pattern : goal.invariant-loop-pattern
invariant-loop-pattern l =
    l.all.items ≡ filter_map (label_in number_in) (map (λ p. p.now) (take l.pattern-index l.patterns))
