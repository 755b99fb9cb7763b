use Rattle.std.proofs.Common.{rules, ◌≡◌, Some, subst, ap}
use Rattle.limbo_tree.specs.View as source
use Rattle.limbo_types.specs.declared.ty.Ty as code_ty
use Rattle.limbo_types.specs.View.{view_ty}
use Rattle.limbo_allowed.specs.Allowed.{IsUserModule}
use Rattle.limbo_refusals.specs.Refusals.{ModuleValue}
use Rattle.limbo_causes.specs.Causes.{Refused, FailsBy}
use Rattle.limbo_context.specs.View.{view_context, view_body}
use Rattle.limbo_locals.proofs.Rules.{by_rule}
use Rattle.limbo_members.proofs.Permitted.{answer_fails, answer_refused}
use Rattle.limbo_members.proofs.headers.answer.Goals as goal

pub returns-in-Err-clause-refused : goal.returns-in-Err-clause-refused
returns-in-Err-clause-refused c =
    let is : source.view_boxed_type c.args.of.now ≡ Some (source.view_type c.in-Some.t.value) = ap source.view_boxed_type c.in-Some.is in
    answer_fails (view_context c.args.context.now) (view_body c.args.body.now) (source.view_boxed_type c.args.of.now)
    (source.view_type c.in-Some.t.value) c.in-Err.fault.cause is (search rules)

pub returns-in-Ok-clause-refused : goal.returns-in-Ok-clause-refused
returns-in-Ok-clause-refused c =
    let is : source.view_boxed_type c.args.of.now ≡ Some (source.view_type c.in-Some.t.value) = ap source.view_boxed_type c.in-Some.is in
    by_rule c.answered.result c.answered.ensures.refused (λ f h. answer_refused (view_context c.args.context.now) (view_body
    c.args.body.now) (source.view_boxed_type c.args.of.now) (source.view_type c.in-Some.t.value) (view_ty c.in-Ok.u.value) f is (search
    rules) (subst (λ (t : code_ty.Ty). FailsBy f (λ k. (k ≡ Refused ModuleValue) × IsUserModule c.args.context.now.system (view_ty t)))
    c.deref-in-Ok.ensures h))
