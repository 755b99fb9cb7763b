use Rattle.std.proofs.Common.{rules, ◌≡◌, None, length, subst}
use Rattle.limbo_tree.specs.View as source
use Rattle.limbo_typed.specs.declared.expr.TExpr as code_expr
use Rattle.limbo_typed.specs.View.{view_expr}
use Rattle.limbo_folding.specs.Folding.{value_of}
use Rattle.limbo_causes.specs.Causes.{NotConstant, FailsBy}
use Rattle.limbo_context.specs.View.{view_context, view_body}
use Rattle.limbo_locals.proofs.Known.{value_fails, not_constant, scopes_same, as_many}
use Rattle.limbo_locals.proofs.constants.constant_at.Goals as goal

pub returns-in-Err-clause-refused : goal.returns-in-Err-clause-refused
returns-in-Err-clause-refused c =
    value_fails (view_context c.args.context.now) (view_body c.args.body.now) (source.view_expr c.args.e.now) c.args.place
    c.in-Err.fault.cause c.in-Err.ensures.refused

pub returns-in-Err-valued-clause-refused : goal.returns-in-Err-valued-clause-refused
returns-in-Err-valued-clause-refused c =
    not_constant (view_context c.args.context.now) (view_body c.args.body.now) (source.view_expr c.args.e.now) c.args.place
    (view_expr c.in-Ok.x.value) (view_body c.value_at.new.body) c.in-Ok.ensures.typed c.in-Err-valued.fault.cause
    (subst (λ (x : code_expr.TExpr). FailsBy c.in-Err-valued.fault.cause (λ k. (k ≡ NotConstant) × (value_of (view_expr x) ≡ None)))
    c.deref.ensures c.in-Err-valued.ensures.refused)

pub returns-then-len-variables-clause-scopes : goal.returns-then-len-variables-clause-scopes
returns-then-len-variables-clause-scopes c =
    let many : length c.value_at.new.body.variables.items ≡ length c.args.body.now.variables.items = search rules in
    scopes_same (view_context c.args.context.now) (view_body c.args.body.now) (source.view_expr c.args.e.now) c.args.place
    (view_expr c.in-Ok.x.value) (view_body c.value_at.new.body) c.in-Ok.ensures.typed c.depth-depth.ensures.never_none
    (as_many c.args.body.now c.value_at.new.body many)
