use Rattle.std.proofs.Common.{◌≡◌, ◌<◌, ◌≤◌, length, get_or, None, Some, arith}
use Rattle.limbo_declarations.specs.View.{view_row}
use Rattle.limbo_unknown.specs.Written.{written}
use Rattle.limbo_unknown.specs.Lacking.{IsTold}
use Rattle.limbo_unknown.proofs.Tabled.{refused, go_on, within}
use Rattle.limbo_unknown.proofs.known.all_known.Goals as goal

pub returns-in-Some-clause-unknown : goal.returns-in-Some-clause-unknown
returns-in-Some-clause-unknown c = λ m is.
    let es = c.args.table.now.entries.items in
    let e = c.entry-item.result in
    let l : c.loop-entry.entry-index < length es = rw c.deref-entry-items.ensures.value at c.loop-entry-test.true in
    let i : e ≡ get_or es c.loop-entry.entry-index e = rw c.deref-entry-items.ensures.value at c.entry-item.is in
    let told : IsTold c.args.naming.now e.within (written (view_row e.row)) (Some c.in-Some.at) = rw c.in-Some.is at c.in_ok-at.ensures in
    refused c.args.table.now c.args.naming.now m is c.loop-entry.entry-index e l i told

pub loop-entry-preserved : goal.loop-entry-preserved
loop-entry-preserved c = λ m is.
    let es = c.args.table.now.entries.items in
    let e = c.entry-item.result in
    let l : c.loop-entry.entry-index < length es = rw c.deref-entry-items.ensures.value at c.loop-entry-test.true in
    let i : e ≡ get_or es c.loop-entry.entry-index e = rw c.deref-entry-items.ensures.value at c.entry-item.is in
    let told : IsTold c.args.naming.now e.within (written (view_row e.row)) None = rw c.in_default.is at c.in_ok-at.ensures in
    go_on c.args.table.now c.args.naming.now m is c.loop-entry.entry-index e l i told (c.loop-entry.invariant m is)

pub returns-clause-known : goal.returns-clause-known
returns-clause-known c = λ m is u.
    let es = c.args.table.now.entries.items in
    let l = within es u.number u.entry u.there in
    let k = c.loop-entry.invariant m is u in
    let long : length es ≤ c.loop-entry.entry-index = rw c.deref-entry-items.ensures.value at c.loop-entry-test.false in
    absurd (omega arith)
