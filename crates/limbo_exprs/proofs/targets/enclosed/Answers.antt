use Rattle.std.proofs.Common.{ap, ◌∙◌}
use Rattle.limbo_tree.specs.Exprs as tree
use Rattle.limbo_tree.specs.View as source
use Rattle.limbo_tree.proofs.Exprs.{view_expr-Group}
use Rattle.limbo_typing.specs.Failing.{is_enclosed}
use Rattle.limbo_exprs.proofs.Outcomes.{only_in, no_only, not_only}
use Rattle.limbo_exprs.proofs.targets.enclosed.Goals as goal

pub returns-in-empty-clause-none : goal.returns-in-empty-clause-none
returns-in-empty-clause-none c =
    ap (λ e. is_enclosed (source.view_expr e)) c.in-Group.is ∙ ap is_enclosed (view_expr-Group c.in-Group.items c.in-Group.span)
    ∙ no_only c.in-Group.items.items c.as_slice.result.now c.as_slice.ensures.value c.in-empty.len_below

pub returns-in-len1-clause-found : goal.returns-in-len1-clause-found
returns-in-len1-clause-found c =
    ap source.view_expr c.in-Group.is ∙ view_expr-Group c.in-Group.items c.in-Group.span
    ∙ ap tree.Group
    (only_in c.in-Group.items.items c.as_slice.result.now c.item-item.result c.as_slice.ensures.value c.in-len1.len_at_least
    c.in-len1.len_below c.item-item.is)

pub returns-in_default-as_slice-clause-none : goal.returns-in_default-as_slice-clause-none
returns-in_default-as_slice-clause-none c =
    ap (λ e. is_enclosed (source.view_expr e)) c.in-Group.is ∙ ap is_enclosed (view_expr-Group c.in-Group.items c.in-Group.span)
    ∙ not_only c.in-Group.items.items c.as_slice.result.now c.as_slice.ensures.value c.in_default-as_slice.len_at_least
