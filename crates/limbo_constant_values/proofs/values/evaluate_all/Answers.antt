use Rattle.std.proofs.Common.{◌≡◌, ℕ, subst, arith}
use Rattle.limbo_entries.specs.View.{entries_of}
use Rattle.limbo_order.specs.Order.{NeedsWithin}
use Rattle.limbo_order.specs.View.{rows}
use Rattle.limbo_constant_values.specs.Values.{IsNotConstant}
use Rattle.limbo_constant_values.proofs.Filling.{needs_only, circle, in_table, behind, are_values, as_many_rows, as_many_here, told_bad, told_values}
use Rattle.limbo_constant_values.proofs.values.evaluate_all.Goals as goal

pub order-requires-clause-there : goal.order-requires-clause-there
order-requires-clause-there c =
    rw c.deref.ensures.value (needs_only c.args.naming.now c.requires.naming.knows c.in_ok-needs.needs.items
    (as_many_rows c.args.naming.now c.args.table.now c.in_ok-needs.needs.items c.requires.naming.by_table c.in_ok-needs.ensures.many) c.in_ok-needs.ensures.each)

pub returns-in-Err-Cycle-clause-not_constant : goal.returns-in-Err-Cycle-clause-not_constant
returns-in-Err-Cycle-clause-not_constant c = λ n e.
    let q = c.in-Err-Cycle.number-is in
    let same : c.in-Err-Cycle.number ≡ n = cc in
    let w : NeedsWithin (rows c.in_ok-needs.needs.items) c.in-Err-Cycle.number c.in-Err-Cycle.number =
    rw c.deref.ensures.value at (c.in-Err-Cycle.ensures.cycle c.in-Err-Cycle.number c.in-Err-Cycle.field-0-is) in
    subst (λ (z : ℕ). IsNotConstant (entries_of c.args.table.now.entries.items) c.args.implemented z) same
    (told_bad c.args.naming.now c.args.table.now c.args.implemented c.in-Err-Cycle.number c.requires.naming.by_table c.requires.naming.by_module
    (circle c.args.naming.now c.requires.naming.knows c.in_ok-needs.needs.items (as_many_rows c.args.naming.now c.args.table.now c.in_ok-needs.needs.items c.requires.naming.by_table c.in_ok-needs.ensures.many) c.in_ok-needs.ensures.each c.in-Err-Cycle.number w))

pub fill-requires-clause-there : goal.fill-requires-clause-there
fill-requires-clause-there c = λ i n h.
    let l = in_table c.args.naming.now c.requires.naming.knows c.in_ok-needs.needs.items (as_many_rows c.args.naming.now c.args.table.now c.in_ok-needs.needs.items c.requires.naming.by_table c.in_ok-needs.ensures.many) c.in_ok-needs.ensures.each c.in-Ok.order.items (rw c.deref.ensures.value at c.in-Ok.ensures.order) i n (rw c.deref-2.ensures.value at h) in
    let a = as_many_here c.args.naming.now c.args.table.now c.requires.naming.by_table in
    omega arith

pub fill-requires-clause-behind : goal.fill-requires-clause-behind
fill-requires-clause-behind c = rw c.deref-2.ensures.value (behind c.args.naming.now c.requires.naming.knows c.in_ok-needs.needs.items (as_many_rows c.args.naming.now c.args.table.now c.in_ok-needs.needs.items c.requires.naming.by_table c.in_ok-needs.ensures.many) c.in_ok-needs.ensures.each c.in-Ok.order.items (rw c.deref.ensures.value at c.in-Ok.ensures.order))

pub returns-clause-not_constant : goal.returns-clause-not_constant
returns-clause-not_constant c = λ n e.
    subst (λ (z : ℕ). IsNotConstant (entries_of c.args.table.now.entries.items) z n) c.requires.naming.by_module (c.in-Err.ensures.not_constant n e)

pub returns-in-Ok-fill-clause-values : goal.returns-in-Ok-fill-clause-values
returns-in-Ok-fill-clause-values c =
    told_values c.args.naming.now c.args.table.now c.args.implemented c.fill.new.values.items c.requires.naming.by_table c.requires.naming.by_module
    (are_values c.args.naming.now c.requires.naming.knows c.in_ok-needs.needs.items (as_many_rows c.args.naming.now c.args.table.now c.in_ok-needs.needs.items c.requires.naming.by_table c.in_ok-needs.ensures.many) c.in_ok-needs.ensures.each c.in-Ok.order.items (rw c.deref.ensures.value at c.in-Ok.ensures.order) c.fill.new.values.items c.in-Ok-fill.ensures.sound (rw c.deref-2.ensures.value at c.in-Ok-fill.ensures.done))
