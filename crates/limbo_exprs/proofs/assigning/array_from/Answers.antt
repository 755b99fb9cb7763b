use Rattle.std.proofs.Common.{◌≡◌, None, sym, ap, subst, ◌∙◌}
use Rattle.std.specs.Prelude.{IfNone}
use Rattle.limbo_tree.specs.declared.expr.Expr as code_expr
use Rattle.limbo_tree.specs.Exprs as tree
use Rattle.limbo_tree.specs.View as source
use Rattle.limbo_tree.proofs.Exprs.{view_expr-Slice}
use Rattle.limbo_typing.specs.limbo_value_forms.Forms.{copied}
use Rattle.limbo_exprs.proofs.assigning.array_from.Goals as goal

pub returns-in-Slice-clause-none : goal.returns-in-Slice-clause-none
returns-in-Slice-clause-none c =
    subst (λ (e : tree.Expr). IfNone c.bounds_from.result ((r : tree.Expr) → copied e r ≡ None))
    (ap (λ (a : code_expr.Expr). tree.Slice (source.view_expr a) (source.view_part c.in-Slice.from) (source.view_part c.in-Slice.to))
    c.deref.ensures
    ∙ sym (ap source.view_expr c.in-Slice.is ∙ view_expr-Slice c.in-Slice.base c.in-Slice.from c.in-Slice.to c.in-Slice.span))
    c.bounds_from.ensures.none
