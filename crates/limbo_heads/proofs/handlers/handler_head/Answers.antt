use Rattle.std.proofs.Common.{List, Option, map, sym, subst}
use Rattle.limbo_tree.specs.declared.name.Name as code_name
use Rattle.limbo_tree.specs.View as source
use Rattle.limbo_typed.specs.declared.stmt.HandlerPattern.{HandlerPattern}
use Rattle.limbo_causes.specs.Causes.{FailsBy}
use Rattle.limbo_context.specs.View.{view_context, view_body}
use Rattle.limbo_stmt_values.specs.limbo_stating.Handlers.{FailsHandlerHead}
use Rattle.limbo_stmt_values.specs.Leading.{From}
use Rattle.limbo_heads.specs.Catching.{FailsVariable}
use Rattle.limbo_heads.proofs.Excepting.{patterns_fail, variable_fails}
use Rattle.limbo_heads.proofs.handlers.handler_head.Goals as goal

pub returns-in-Err-clause-refused : goal.returns-in-Err-clause-refused
returns-in-Err-clause-refused c =
    patterns_fail (view_context c.args.context.now) (view_body c.args.body.now) (map source.view_handler_pattern c.args.patterns.now)
    c.in-Err.fault.cause (source.name_of c.args.name.now) c.in-Err.ensures.refused

pub returns-in-Err-variable_of-clause-refused : goal.returns-in-Err-variable_of-clause-refused
returns-in-Err-variable_of-clause-refused c =
    let C = view_context c.args.context.now in
    let B = view_body c.args.body.now in
    let xs = map source.view_handler_pattern c.args.patterns.now in
    let f = c.in-Err-variable_of.fault.cause in
    subst (λ (o : Option code_name.Name). FailsBy f (λ k. From (λ p. FailsHandlerHead p xs (source.name_of o) k) C B)) (sym c.in-Some.is)
    (variable_fails C B xs f c.in-Some.name.text c.in-Ok.taken.items c.in-Ok.ensures.handled
    (subst (λ (zs : List HandlerPattern). FailsBy f (FailsVariable C zs)) c.deref.ensures.value c.in-Err-variable_of.ensures.refused))
