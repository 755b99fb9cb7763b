use Rattle.std.proofs.Common.{◌≡◌, Some, None, rules}
use Rattle.std.proofs.lemmas.Result.{IfOk-weaker}
use Rattle.std.proofs.lemmas.Option.{IfSome_then}
use Rattle.limbo_layout.proofs.Unlaid.{none_also}
use Rattle.limbo_context.specs.Context.{named_in}
use Rattle.limbo_context.specs.View.{view_context}
use Rattle.limbo_typed.proofs.View.{view_optional-None}
use Rattle.limbo_refusals.specs.Refusals.{NoneIs}
use Rattle.limbo_things.specs.Things.{PartOfAdt}
use Rattle.limbo_things.proofs.Found.{found_as, none_as}
use Rattle.limbo_things.proofs.Choices.{adt_found, adt_lacks, variant_found, variant_lacks}
use Rattle.limbo_things.proofs.parts.part_of_adt.Goals as goal

pub returns-in-Some-clause-found : goal.returns-in-Some-clause-found
returns-in-Some-clause-found c =
    let ctx = view_context c.args.context.now in
    let named : named_in ctx.members c.args.adt c.args.name.now ≡ Some c.in-Some.meaning = search rules in
    IfOk-weaker c.adt_member.result _ _
    (λ o h. found_as o _ (PartOfAdt ctx c.args.name.now c.args.adt) h
    (λ t q. adt_found ctx c.args.name.now c.args.adt c.in-Some.meaning t named q))
    (rw view_optional-None at c.adt_member.ensures)

pub returns-in-Some-clause-none : goal.returns-in-Some-clause-none
returns-in-Some-clause-none c =
    let ctx = view_context c.args.context.now in
    let named : named_in ctx.members c.args.adt c.args.name.now ≡ Some c.in-Some.meaning = search rules in
    IfOk-weaker c.adt_member.result _ _
    (λ o h. none_as o _ (NoneIs (PartOfAdt ctx c.args.name.now c.args.adt)) h
    (λ q. adt_lacks ctx c.args.name.now c.args.adt c.in-Some.meaning named q))
    (rw view_optional-None at c.adt_member.ensures)

pub returns-in-None-clause-found : goal.returns-in-None-clause-found
returns-in-None-clause-found c =
    let ctx = view_context c.args.context.now in
    let named : named_in ctx.members c.args.adt c.args.name.now ≡ None = search rules in
    IfOk-weaker c.variant_of.result _ _
    (λ o h. IfSome_then o h (λ t p. variant_found ctx c.args.name.now c.args.adt _ named p))
    c.variant_of.ensures.found

pub returns-in-None-clause-none : goal.returns-in-None-clause-none
returns-in-None-clause-none c =
    let ctx = view_context c.args.context.now in
    let named : named_in ctx.members c.args.adt c.args.name.now ≡ None = search rules in
    IfOk-weaker c.variant_of.result _ _
    (λ o h. none_also o _ _ (λ none. variant_lacks ctx c.args.name.now c.args.adt named none) h)
    c.variant_of.ensures.none
