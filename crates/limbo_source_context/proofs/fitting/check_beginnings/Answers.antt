use Rattle.std.proofs.Common.{◌≤◌, length, map, arith}
use Rattle.limbo_typed.specs.View.{view_var}
use Rattle.limbo_entries.specs.View.{entries_of}
use Rattle.limbo_meanings.proofs.Places.{as_many}
use Rattle.limbo_source_context.specs.Beginning.{BeginsSo}
use Rattle.limbo_source_context.proofs.Suiting.{all_begin, begin_more}
use Rattle.limbo_source_context.proofs.fitting.check_beginnings.Goals as goal

pub loop-number-preserved : goal.loop-number-preserved
loop-number-preserved c =
    let es = entries_of c.args.table.now.entries.items in
    begin_more (BeginsSo es c.args.implemented (map view_var c.args.globals.now)) c.loop-number.number c.loop-number.invariant
    c.in_ok-check_beginning.ensures.begins

pub returns-clause-begin : goal.returns-clause-begin
returns-clause-begin c =
    let all = c.args.table.now.entries.items in
    let a = as_many all in
    let l : length (entries_of all) ≤ c.loop-number.number = omega arith in
    all_begin (entries_of all) c.args.implemented c.loop-number.number (map view_var c.args.globals.now) l c.loop-number.invariant
