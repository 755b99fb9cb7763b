use Rattle.std.proofs.Common.{◌≤◌, length, arith}
use Rattle.limbo_entries.specs.View.{entries_of}
use Rattle.limbo_meanings.proofs.Places.{as_many}
use Rattle.limbo_source_context.proofs.Beginnings.{all_begun}
use Rattle.limbo_source_context.proofs.beginning.find_beginnings.Goals as goal

pub returns : goal.returns
returns c =
    let all = c.args.table.now.entries.items in
    let a = as_many all in
    let l : length (entries_of all) ≤ c.loop-number.number = omega arith in
    all_begun (entries_of all) c.args.implemented c.loop-number.number c.loop-number.beginnings.items l c.loop-number.invariant
