use Rattle.std.proofs.Common.{◌≡◌, ◌<◌, length, sym, arith}
use Rattle.limbo_entries.specs.View.{entries_of, view_entry}
use Rattle.limbo_meanings.proofs.Places.{one_more}
use Rattle.limbo_exports.proofs.Exporting.{called_yes, called_no}
use Rattle.limbo_exports.proofs.exports.count_called.Goals as goal

pub loop-number-preserved : goal.loop-number-preserved
loop-number-preserved c =
    let all = c.args.table.now.entries.items in
    let i = c.loop-number.number in
    let x = c.index-entry.result.now in
    let r = c.requires.there in
    let t = c.loop-number-test.true in
    let l : i < length all = omega arith in
    record {
      counted = called_yes c.args.builtin c.args.scope (entries_of all) i c.loop-number.count (view_entry x) (one_more all i x l
          c.index-entry.ensures)
          c.loop-number.invariant.counted (sym c.if-not-is_called.ensures);
      few = omega arith;
    }

pub loop-number-preserved-then-not-is_called : goal.loop-number-preserved-then-not-is_called
loop-number-preserved-then-not-is_called c =
    let all = c.args.table.now.entries.items in
    let i = c.loop-number.number in
    let x = c.index-entry.result.now in
    let r = c.requires.there in
    let t = c.loop-number-test.true in
    let l : i < length all = omega arith in
    record {
      counted = called_no c.args.builtin c.args.scope (entries_of all) i c.loop-number.count (view_entry x) (one_more all i x l
          c.index-entry.ensures)
          c.loop-number.invariant.counted (sym c.if-not-is_called.ensures);
      few = omega arith;
    }
