use Rattle.std.proofs.Common.{List, map, sym, ap, ◌∙◌}
use Rattle.std.proofs.lemmas.List.{take_all}
use Rattle.limbo_types.specs.View.{tys_of}
use Rattle.limbo_typed.specs.declared.expr.Pattern as code_pattern
use Rattle.limbo_typed.specs.View.{view_pattern}
use Rattle.limbo_assigning.specs.Assigning.{type_in}
use Rattle.limbo_assigning.proofs.Told.{types_told}
use Rattle.limbo_assigning.proofs.assigning.+telling.Goals as goal

pub types_in-returns : goal.types_in-returns
types_in-returns t c =
    ap tys_of c.loop-pattern.invariant
    ∙ ap (λ (z : List code_pattern.Pattern). tys_of (map (λ (p : code_pattern.Pattern). type_in (view_pattern p)) z))
    (take_all c.loop-pattern.pattern-index c.args.patterns.now c.loop-pattern-test.false)
    ∙ sym (types_told c.args.patterns.now)
