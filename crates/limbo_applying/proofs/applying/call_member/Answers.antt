use Rattle.std.proofs.Common.{◌≡◌, Some, None, rules}
use Rattle.std.specs.Prelude.{slice_get}
use Rattle.std.proofs.lemmas.Result.{IfOk-weaker, IfErr-weaker}
use Rattle.limbo_types.proofs.View.{view_ty-Nothing}
use Rattle.limbo_typed.specs.View.{view_expr, view_exprs, view_interface, view_signature}
use Rattle.limbo_context.specs.View.{view_context}
use Rattle.limbo_applying.proofs.Refused.{seen_at, none_at, member_lacks, member_refused, member_given}
use Rattle.limbo_applying.proofs.Refused.{no_interface, no_declared, declared_at}
use Rattle.limbo_applying.proofs.applying.call_member.Goals as goal

pub returns-in-None-clause-refused : goal.returns-in-None-clause-refused
returns-in-None-clause-refused c =
    let ctx = view_context c.args.context.now in
    let none : slice_get ctx.interfaces c.args.interface ≡ None =
    none_at view_interface c.deref.result.now c.args.context.now.interfaces.items c.args.interface (search rules)
    c.in-None.ensures.lookup.3 in
    member_lacks ctx c.clash_of.result (view_expr c.args.instance.value) c.args.interface c.args.function (view_exprs c.args.args.items)
    (no_interface ctx c.args.interface c.args.function none) (search (rules, view_ty-Nothing))

pub returns-in-None-get-clause-refused : goal.returns-in-None-get-clause-refused
returns-in-None-get-clause-refused c =
    let ctx = view_context c.args.context.now in
    let of = view_interface c.in-Some.of.now in
    let there : slice_get ctx.interfaces c.args.interface ≡ Some of =
    seen_at view_interface c.deref.result.now c.args.context.now.interfaces.items c.args.interface c.in-Some.of.now (search rules)
    c.in-Some.ensures.lookup.3.0 c.in-Some.ensures.lookup.1 in
    let none : slice_get of.functions c.args.function ≡ None =
    none_at view_signature c.deref-in-Some.result.now c.in-Some.of.now.functions.items c.args.function (search rules)
    c.in-None-get.ensures.lookup.3 in
    member_lacks ctx c.clash_of-in-None-get.result (view_expr c.args.instance.value) c.args.interface c.args.function
    (view_exprs c.args.args.items) (no_declared ctx c.args.interface c.args.function of there none) (search (rules, view_ty-Nothing))

pub returns-in-Some-get-clause-typed : goal.returns-in-Some-get-clause-typed
returns-in-Some-get-clause-typed c =
    let ctx = view_context c.args.context.now in
    let of = view_interface c.in-Some.of.now in
    let member = view_signature c.in-Some-get.member.now in
    let there : slice_get ctx.interfaces c.args.interface ≡ Some of =
    seen_at view_interface c.deref.result.now c.args.context.now.interfaces.items c.args.interface c.in-Some.of.now (search rules)
    c.in-Some.ensures.lookup.3.0 c.in-Some.ensures.lookup.1 in
    let declared : slice_get of.functions c.args.function ≡ Some member =
    seen_at view_signature c.deref-in-Some.result.now c.in-Some.of.now.functions.items c.args.function c.in-Some-get.member.now
    (search rules) c.in-Some-get.ensures.lookup.3.0 c.in-Some-get.ensures.lookup.1 in
    let declares = declared_at ctx c.args.interface c.args.function of member there declared in
    IfOk-weaker c.call_through.result _ _
    (λ e h. member_given ctx (view_expr c.args.instance.value) c.args.interface c.args.function (view_exprs c.args.args.items)
    (view_expr e.value) member declares h)
    c.call_through.ensures.typed

pub returns-in-Some-get-clause-refused : goal.returns-in-Some-get-clause-refused
returns-in-Some-get-clause-refused c =
    let ctx = view_context c.args.context.now in
    let of = view_interface c.in-Some.of.now in
    let member = view_signature c.in-Some-get.member.now in
    let there : slice_get ctx.interfaces c.args.interface ≡ Some of =
    seen_at view_interface c.deref.result.now c.args.context.now.interfaces.items c.args.interface c.in-Some.of.now (search rules)
    c.in-Some.ensures.lookup.3.0 c.in-Some.ensures.lookup.1 in
    let declared : slice_get of.functions c.args.function ≡ Some member =
    seen_at view_signature c.deref-in-Some.result.now c.in-Some.of.now.functions.items c.args.function c.in-Some-get.member.now
    (search rules) c.in-Some-get.ensures.lookup.3.0 c.in-Some-get.ensures.lookup.1 in
    let declares = declared_at ctx c.args.interface c.args.function of member there declared in
    IfErr-weaker c.call_through.result _ _
    (λ f h. member_refused ctx f (view_expr c.args.instance.value) c.args.interface c.args.function (view_exprs c.args.args.items)
    member declares h)
    c.call_through.ensures.refused
