use Rattle.std.proofs.Common.{map}
use Rattle.limbo_types.specs.View.{view_ty}
use Rattle.limbo_context.specs.View.{view_context}
use Rattle.limbo_stmt_values.proofs.Told.{untrue}
use Rattle.limbo_heads.proofs.Carrying.{carried_all, none_carried}
use Rattle.limbo_heads.proofs.catching.carried_by_all.Goals as goal

pub returns-then-each_carries-clause-found : goal.returns-then-each_carries-clause-found
returns-then-each_carries-clause-found c =
    carried_all (view_context c.args.context.now) c.args.patterns.now c.in-Some.first.now c.in-Some.others.now
    (map view_ty c.in-Some-carried.values.now) c.in-Some.ensures.cases.0 c.in-Some-carried.ensures.found
    (c.each_carries.ensures.0 c.if-each_carries.true)

pub returns-else-each_carries-clause-none : goal.returns-else-each_carries-clause-none
returns-else-each_carries-clause-none c =
    none_carried (view_context c.args.context.now) c.args.patterns.now c.in-Some.first.now c.in-Some.others.now
    (map view_ty c.in-Some-carried.values.now) c.in-Some.ensures.cases.0 c.in-Some-carried.ensures.found
    (untrue c.each_carries.result _ c.if-each_carries.false c.each_carries.ensures)
