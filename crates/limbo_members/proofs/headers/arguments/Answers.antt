use Rattle.std.proofs.Common.{rules, arith, ◌<◌, ◌++◌, ℕ, List, length, map, take, sym, subst}
use Rattle.std.proofs.lemmas.List.{length-map}
use Rattle.std.proofs.lemmas.Grind.{common_steps}
use Rattle.limbo_tree.specs.Types as written
use Rattle.limbo_tree.specs.View.{view_param}
use Rattle.limbo_types.specs.View.{view_ty}
use Rattle.limbo_causes.specs.Causes.{FailsBy}
use Rattle.limbo_context.specs.View.{view_context, view_body}
use Rattle.limbo_locals.specs.limbo_local.Local.{argument_types, ArePermitted}
use Rattle.limbo_locals.specs.limbo_local.Failing.{FailsTypes}
use Rattle.limbo_members.specs.Written.{of_each}
use Rattle.limbo_members.proofs.Permitted.{some_param_fails, next_param, param_at}
use Rattle.limbo_members.proofs.headers.arguments.Goals as goal

pub returns-in-Err-clause-refused : goal.returns-in-Err-clause-refused
returns-in-Err-clause-refused c =
    let b : c.loop-param.param-index < length c.args.params.now = search rules in
    let l : c.loop-param.param-index < length (map view_param c.args.params.now) =
    subst (λ (n : ℕ). c.loop-param.param-index < n) (sym (length-map c.args.params.now view_param)) b in
    let h : FailsBy c.in-Err.fault.cause (FailsTypes (view_context c.args.context.now) (view_body c.args.body.now) (of_each
    (view_param c.param-item.result).names (view_param c.param-item.result).of)) = grind (arith, common_steps) in
    some_param_fails (view_context c.args.context.now) (view_body c.args.body.now) (map view_param c.args.params.now)
    c.loop-param.param-index (view_param c.param-item.result) c.in-Err.fault.cause l
    (param_at c.args.params.now c.loop-param.param-index c.param-item.result b c.param-item.is) h

pub loop-param-preserved : goal.loop-param-preserved
loop-param-preserved c =
    let b : c.loop-param.param-index < length c.args.params.now = search rules in
    let h : (ts : List written.Ty)
    → ArePermitted (view_context c.args.context.now) (view_body c.args.body.now) ts (map view_ty c.loop-param.types.items)
    → ArePermitted (view_context c.args.context.now) (view_body c.args.body.now) (ts ++ of_each (view_param c.param-item.result).names
    (view_param c.param-item.result).of) (map view_ty c.push_each.new.types.items) = grind (arith, common_steps) in
    subst
    (λ (zs : List written.Ty). ArePermitted (view_context c.args.context.now) (view_body c.args.body.now) zs
    (map view_ty c.push_each.new.types.items))
    (sym (next_param c.args.params.now c.loop-param.param-index c.param-item.result b c.param-item.is))
    (h (argument_types (map view_param (take c.loop-param.param-index c.args.params.now))) c.loop-param.invariant)
