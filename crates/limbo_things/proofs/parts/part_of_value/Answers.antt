use Rattle.std.proofs.lemmas.Result.{IfOk-weaker}
use Rattle.limbo_typed.specs.View.{view_expr}
use Rattle.limbo_context.specs.View.{view_context}
use Rattle.limbo_refusals.specs.Refusals.{NoneIs}
use Rattle.limbo_things.specs.Things.{PartOfValue}
use Rattle.limbo_things.proofs.Found.{found_as, none_as}
use Rattle.limbo_things.proofs.Choices.{none_selected, value_member, value_none}
use Rattle.limbo_things.proofs.parts.part_of_value.Goals as goal
use Rattle.std.proofs.Common.{rules}

pub returns-clause-found : goal.returns-clause-found
returns-clause-found c =
    let e = view_expr c.args.e.value in
    let ctx = view_context c.args.context.now in
    let none = none_selected c.in_ok-has_part.field-0 c.defs.result.now c.args.context.now.adts.adts c.args.name.now c.args.e.value
    (search rules) (search rules) (search rules) in
    IfOk-weaker c.member_of_value.result _ _
    (λ o h. found_as o _ (PartOfValue ctx c.args.name.now e) h (λ t q. value_member ctx c.args.name.now e t none q))
    c.member_of_value.ensures

pub returns-clause-none : goal.returns-clause-none
returns-clause-none c =
    let e = view_expr c.args.e.value in
    let ctx = view_context c.args.context.now in
    let none = none_selected c.in_ok-has_part.field-0 c.defs.result.now c.args.context.now.adts.adts c.args.name.now c.args.e.value
    (search rules) (search rules) (search rules) in
    IfOk-weaker c.member_of_value.result _ _
    (λ o h. none_as o _ (NoneIs (PartOfValue ctx c.args.name.now e)) h (λ q. value_none ctx c.args.name.now e none q))
    c.member_of_value.ensures
