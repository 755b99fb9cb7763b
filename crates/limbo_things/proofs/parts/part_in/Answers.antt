use Rattle.std.proofs.Common.{◌≡◌, sym, subst}
use Rattle.std.proofs.lemmas.Result.{IfOk-weaker}
use Rattle.limbo_layout.proofs.Unlaid.{none_also}
use Rattle.limbo_context.specs.View.{view_context}
use Rattle.limbo_refusals.specs.Refusals.{NoneIs}
use Rattle.limbo_typed.specs.View.{view_expr}
use Rattle.limbo_typed.proofs.View.{view_optional-None}
use Rattle.limbo_things.specs.Things.{Thing, AValue, AVariant, PartIs}
use Rattle.limbo_things.specs.ThingView.{view_thing}
use Rattle.limbo_things.proofs.Found.{found_as}
use Rattle.limbo_things.proofs.parts.part_in.Goals as goal
use Rattle.std.proofs.Common.{rules}

pub returns-in-Value-clause-none : goal.returns-in-Value-clause-none
returns-in-Value-clause-none c =
    let ctx = view_context c.args.context.now in
    let base : view_thing c.args.base.value ≡ AValue (view_expr c.in-Value.e.value) = search rules in
    IfOk-weaker c.part_of_value.result _ _
    (λ o h. none_also o _ _ (λ none. subst (λ (z : Thing). NoneIs (PartIs ctx c.args.name.now z)) (sym base) none) h)
    c.part_of_value.ensures.none

pub returns-in-Variant-clause-found : goal.returns-in-Variant-clause-found
returns-in-Variant-clause-found c =
    let ctx = view_context c.args.context.now in
    let base : view_thing c.args.base.value ≡ AVariant c.in-Variant.adt c.in-Variant.variant = search rules in
    IfOk-weaker c.member_at.result _ _
    (λ o h. found_as o _ (PartIs ctx c.args.name.now (view_thing c.args.base.value)) h
    (λ t q. subst (λ (z : Thing). PartIs ctx c.args.name.now z t) (sym base) q))
    (rw view_optional-None at c.member_at.ensures)
