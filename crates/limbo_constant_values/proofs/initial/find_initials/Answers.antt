use Rattle.std.proofs.Common.{◌≤◌, length, subst, arith}
use Rattle.limbo_entries.specs.Entries.{AreOnce}
use Rattle.limbo_entries.specs.View.{entries_of}
use Rattle.limbo_entries.specs.declared.table.Table.{Table}
use Rattle.limbo_naming.proofs.Places.{as_many}
use Rattle.limbo_constant_values.proofs.Initials.{one_more, all_known}
use Rattle.limbo_constant_values.proofs.initial.find_initials.Goals as goal

pub loop-number-preserved : goal.loop-number-preserved
loop-number-preserved c =
    let es = entries_of c.args.table.now.entries.items in
    let once = subst (λ (z : Table). AreOnce (entries_of z.entries.items)) c.requires.naming.by_table c.requires.naming.knows.sight.once in
    rw c.in_ok-push.ensures.items
    (one_more es c.args.implemented c.args.naming.now.implemented c.loop-number.number c.in_ok-initial.initial c.loop-number.all.items c.requires.naming.by_module once
    c.in_ok-initial.ensures.some c.in_ok-initial.ensures.none c.loop-number.invariant)

pub returns : goal.returns
returns c =
    let all = c.args.table.now.entries.items in
    let a = as_many all in
    let l : length (entries_of all) ≤ c.loop-number.number = omega arith in
    record { initials = all_known (entries_of all) c.args.implemented c.loop-number.number c.loop-number.all.items l c.loop-number.invariant }
