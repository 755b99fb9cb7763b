use Rattle.std.proofs.Common.{◌∙◌}
use Rattle.limbo_order.specs.Order.{NeedsWithin}
use Rattle.limbo_order.specs.View.{rows}
use Rattle.limbo_type_names.proofs.Needing.{rows_many}
use Rattle.limbo_type_names.proofs.Filling.{needs_only, through, in_table, has_each, behind}
use Rattle.limbo_type_names.proofs.names.order_all.Goals as goal

pub order-requires-clause-there : goal.order-requires-clause-there
order-requires-clause-there c = rw c.deref.ensures.value (needs_only c.args.naming.now c.in_ok-needs.needs.items (rows_many c.in_ok-needs.needs.items ∙ c.in_ok-needs.ensures.many) c.in_ok-needs.ensures.each)

pub returns-in-Ok-clause-there : goal.returns-in-Ok-clause-there
returns-in-Ok-clause-there c = in_table c.args.naming.now c.in_ok-needs.needs.items (rows_many c.in_ok-needs.needs.items ∙ c.in_ok-needs.ensures.many) c.in_ok-needs.ensures.each c.in-Ok.order.items (rw c.deref.ensures.value at c.in-Ok.ensures.order)

pub returns-in-Ok-clause-each : goal.returns-in-Ok-clause-each
returns-in-Ok-clause-each c = has_each c.args.naming.now c.in_ok-needs.needs.items (rows_many c.in_ok-needs.needs.items ∙ c.in_ok-needs.ensures.many) c.in_ok-needs.ensures.each c.in-Ok.order.items (rw c.deref.ensures.value at c.in-Ok.ensures.order)

pub returns-in-Ok-clause-behind : goal.returns-in-Ok-clause-behind
returns-in-Ok-clause-behind c = behind c.args.naming.now c.in_ok-needs.needs.items (rows_many c.in_ok-needs.needs.items ∙ c.in_ok-needs.ensures.many) c.in_ok-needs.ensures.each c.in-Ok.order.items (rw c.deref.ensures.value at c.in-Ok.ensures.order)

pub returns-clause-fails : goal.returns-clause-fails
returns-clause-fails c =
    let w : NeedsWithin (rows c.in_ok-needs.needs.items) c.in-Err-Cycle.number c.in-Err-Cycle.number =
    rw c.deref.ensures.value at (c.in-Err-Cycle.ensures.cycle c.in-Err-Cycle.number c.in-Err-Cycle.field-0-is) in
    through c.args.naming.now c.in_ok-needs.needs.items (rows_many c.in_ok-needs.needs.items ∙ c.in_ok-needs.ensures.many) c.in_ok-needs.ensures.each c.in-Err-Cycle.number c.in-Err-Cycle.number w
