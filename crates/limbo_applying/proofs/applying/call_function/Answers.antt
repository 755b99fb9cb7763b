use Rattle.std.proofs.Common.{◌≡◌, Some, None, rules}
use Rattle.std.specs.Prelude.{slice_get}
use Rattle.std.proofs.lemmas.Result.{IfOk-weaker, IfErr-weaker}
use Rattle.limbo_types.proofs.View.{view_ty-Nothing}
use Rattle.limbo_typed.specs.View.{view_expr, view_exprs, view_optional}
use Rattle.limbo_context.specs.View.{view_context, view_callee}
use Rattle.limbo_applying.specs.Applying.{with_object}
use Rattle.limbo_applying.proofs.Refused.{seen_at, none_at, function_lacks, function_refused, function_given}
use Rattle.limbo_applying.proofs.applying.call_function.Goals as goal

pub returns-in-None-clause-refused : goal.returns-in-None-clause-refused
returns-in-None-clause-refused c =
    let ctx = view_context c.args.context.now in
    let none : slice_get ctx.functions c.args.function ≡ None =
    none_at view_callee c.deref.result.now c.args.context.now.functions.items c.args.function (search rules)
    c.in-None.ensures.lookup.3 in
    function_lacks ctx c.clash_of.result c.args.function (view_optional c.args.object) (view_exprs c.args.args.items) none
    (search (rules, view_ty-Nothing))

pub returns-in_ok-args-in-Some-clause-typed : goal.returns-in_ok-args-in-Some-clause-typed
returns-in_ok-args-in-Some-clause-typed c =
    let ctx = view_context c.args.context.now in
    let callee = view_callee c.in-Some.callee.now in
    let there : slice_get ctx.functions c.args.function ≡ Some callee =
    seen_at view_callee c.deref.result.now c.args.context.now.functions.items c.args.function c.in-Some.callee.now
    (search rules) c.in-Some.ensures.lookup.3.0 c.in-Some.ensures.lookup.1 in
    let object = view_optional c.args.object in
    let es = view_exprs c.args.args.items in
    let same : view_exprs c.in_ok-args-in-Some.args.items ≡ with_object callee.takes_self object es = search rules in
    IfOk-weaker c.call.result _ _
    (λ e h. function_given ctx c.args.function object es (view_exprs c.in_ok-args-in-Some.args.items)
    (view_expr e.value) callee there same h)
    c.call.ensures.typed

pub returns-in_ok-args-in-Some-clause-refused : goal.returns-in_ok-args-in-Some-clause-refused
returns-in_ok-args-in-Some-clause-refused c =
    let ctx = view_context c.args.context.now in
    let callee = view_callee c.in-Some.callee.now in
    let there : slice_get ctx.functions c.args.function ≡ Some callee =
    seen_at view_callee c.deref.result.now c.args.context.now.functions.items c.args.function c.in-Some.callee.now
    (search rules) c.in-Some.ensures.lookup.3.0 c.in-Some.ensures.lookup.1 in
    let object = view_optional c.args.object in
    let es = view_exprs c.args.args.items in
    let same : view_exprs c.in_ok-args-in-Some.args.items ≡ with_object callee.takes_self object es = search rules in
    IfErr-weaker c.call.result _ _
    (λ f h. function_refused ctx f c.args.function object es (view_exprs c.in_ok-args-in-Some.args.items) callee there same h)
    c.call.ensures.refused
