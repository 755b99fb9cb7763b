use Rattle.std.proofs.Common.{map, sym, ◌∙◌}
use Rattle.std.proofs.lemmas.List.{at_drop_all}
use Rattle.limbo_types.specs.View.{view_tys}
use Rattle.limbo_typed.specs.View.{view_pattern, patterns_of}
use Rattle.limbo_assigning.specs.Choosing.{take_each}
use Rattle.limbo_assigning.proofs.Fronts.{taken}
use Rattle.limbo_assigning.proofs.asking.+taking.Goals as goal

pub take_each-returns : goal.take_each-returns
take_each-returns t c =
    let rest = c.loop-pattern.rest.now in
    c.is_empty.ensures
    ∙ sym (taken rest)
    ∙ sym (at_drop_all (λ xs. take_each (patterns_of (map view_pattern xs)) (view_tys rest)) c.args.patterns.now c.loop-pattern.pattern-index
    c.loop-pattern-test.false)
    ∙ c.loop-pattern.invariant
