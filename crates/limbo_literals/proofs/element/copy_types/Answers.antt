use Rattle.std.proofs.Common.{◌∙◌, sym, map, ap, List, arith}
use Rattle.std.proofs.lemmas.List.{take_all}
use Rattle.limbo_types.specs.View.{view_ty}
use Rattle.limbo_arguments.proofs.Each.{Value, types_are}
use Rattle.limbo_literals.proofs.element.copy_types.Goals as goal

pub returns : goal.returns
returns c =
    c.loop-expr.invariant
    ∙ ap (λ (es : List Value). map (λ (e : Value). view_ty e.ty) es) (take_all c.loop-expr.expr-index c.args.exprs.now (omega arith))
    ∙ sym (types_are c.args.exprs.now)
