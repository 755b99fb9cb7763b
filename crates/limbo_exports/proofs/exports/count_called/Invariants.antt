use Rattle.std.proofs.Common.{◌≡◌, ◌≤◌, take}
use Rattle.limbo_entries.specs.View.{entries_of}
use Rattle.limbo_exports.specs.Exports.{many_called}
use Rattle.limbo_exports.proofs.exports.count_called.Given as goal

abbrev pub invariant-loop-number : goal.invariant-loop-number
invariant-loop-number l = record {
  counted : l.count ≡ many_called l.builtin l.scope (take l.number (entries_of l.table.entries.items));
  few : l.count ≤ l.number;
}
