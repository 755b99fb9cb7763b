use Rattle.std.proofs.Common.{◌≡◌, sym, ap, subst, rules}
use Rattle.std.specs.Prelude.{IfOk}
use Rattle.std.proofs.lemmas.Result.{IfErr-weaker}
use Rattle.limbo_layout.specs.View.{view_defs}
use Rattle.limbo_typed.specs.View.{view_expr, view_exprs, view_optional}
use Rattle.limbo_typed.proofs.View.{view_optional-None}
use Rattle.limbo_context.specs.View.{view_context}
use Rattle.limbo_things.specs.Things.{Thing, AValue, AVariant, AFunction, AMethod, AMember}
use Rattle.limbo_things.specs.ThingView.{view_thing}
use Rattle.limbo_applying.specs.Applying.{Applies}
use Rattle.limbo_applying.proofs.Refused.{as_thing, variant_refused, value_refused}
use Rattle.limbo_applying.proofs.applying.apply.Goals as goal

pub returns-in-Function-clause-typed : goal.returns-in-Function-clause-typed
returns-in-Function-clause-typed c =
    let ctx = view_context c.args.context.now in
    let es = view_exprs c.args.args.items in
    let at : view_thing c.args.thing.value ≡ AFunction c.in-Function.function = search rules in
    subst (λ (z : Thing). IfOk c.call_function.result (λ e. Applies ctx z es (view_expr e.value))) (sym at)
    (rw view_optional-None at c.call_function.ensures.typed)

pub returns-in-Function-clause-refused : goal.returns-in-Function-clause-refused
returns-in-Function-clause-refused c =
    let ctx = view_context c.args.context.now in
    let es = view_exprs c.args.args.items in
    let at : view_thing c.args.thing.value ≡ AFunction c.in-Function.function = search rules in
    IfErr-weaker c.call_function.result _ _
    (λ f h. as_thing ctx f (view_thing c.args.thing.value) (AFunction c.in-Function.function) es at h)
    (rw view_optional-None at c.call_function.ensures.refused)

pub returns-in-Method-clause-refused : goal.returns-in-Method-clause-refused
returns-in-Method-clause-refused c =
    let ctx = view_context c.args.context.now in
    let es = view_exprs c.args.args.items in
    let at : view_thing c.args.thing.value ≡ AMethod c.in-Method.function (view_optional c.in-Method.object) = search rules in
    IfErr-weaker c.call_function-in-Method.result _ _
    (λ f h. as_thing ctx f (view_thing c.args.thing.value) (AMethod c.in-Method.function (view_optional c.in-Method.object)) es at h)
    c.call_function-in-Method.ensures.refused

pub returns-in-Member-clause-refused : goal.returns-in-Member-clause-refused
returns-in-Member-clause-refused c =
    let ctx = view_context c.args.context.now in
    let es = view_exprs c.args.args.items in
    let member = AMember (view_expr c.in-Member.instance.value) c.in-Member.interface c.in-Member.function in
    let at : view_thing c.args.thing.value ≡ member = search rules in
    IfErr-weaker c.call_member.result _ _ (λ f h. as_thing ctx f (view_thing c.args.thing.value) member es at h)
    c.call_member.ensures.refused

pub returns-in-Variant-clause-refused : goal.returns-in-Variant-clause-refused
returns-in-Variant-clause-refused c =
    let ctx = view_context c.args.context.now in
    let at : view_thing c.args.thing.value ≡ AVariant c.in-Variant.adt c.in-Variant.variant = search rules in
    IfErr-weaker c.construct.result _ _
    (λ f h. variant_refused ctx f (view_thing c.args.thing.value) c.in-Variant.adt c.in-Variant.variant (view_exprs c.args.args.items)
    (view_defs c.defs.result.now) at (ap view_defs c.defs.ensures) h)
    c.construct.ensures.refused

pub returns-in-Value-clause-refused : goal.returns-in-Value-clause-refused
returns-in-Value-clause-refused c =
    let at : view_thing c.args.thing.value ≡ AValue (view_expr c.in-Value.e.value) = search rules in
    value_refused (view_context c.args.context.now) c.clash_of.result (view_thing c.args.thing.value) c.in-Value.e.value
    (view_exprs c.args.args.items) at (search rules)
