use Rattle.std.proofs.Common.{◌≡◌, Some, rules}
use Rattle.std.proofs.lemmas.Result.{IfOk-weaker}
use Rattle.std.proofs.lemmas.Option.{IfSome_then}
use Rattle.limbo_types.specs.View.{view_ty}
use Rattle.limbo_layout.proofs.Unlaid.{none_also}
use Rattle.limbo_context.specs.View.{view_context}
use Rattle.limbo_things.specs.Choosing.{own_adt}
use Rattle.limbo_things.proofs.Choices.{type_has, type_lacks}
use Rattle.limbo_things.proofs.parts.part_of_type.Goals as goal

pub returns-in-Some-clause-found : goal.returns-in-Some-clause-found
returns-in-Some-clause-found c =
    let ctx = view_context c.args.context.now in
    let own : own_adt (view_ty c.args.t.now) ≡ Some c.in-Some.adt = search rules in
    IfOk-weaker c.part_of_adt.result _ _
    (λ o h. IfSome_then o h (λ t p. type_has ctx c.args.name.now (view_ty c.args.t.now) c.in-Some.adt _ own p))
    c.part_of_adt.ensures.found

pub returns-in-Some-clause-none : goal.returns-in-Some-clause-none
returns-in-Some-clause-none c =
    let ctx = view_context c.args.context.now in
    let own : own_adt (view_ty c.args.t.now) ≡ Some c.in-Some.adt = search rules in
    IfOk-weaker c.part_of_adt.result _ _
    (λ o h. none_also o _ _ (λ none. type_lacks ctx c.args.name.now (view_ty c.args.t.now) c.in-Some.adt own none) h)
    c.part_of_adt.ensures.none
