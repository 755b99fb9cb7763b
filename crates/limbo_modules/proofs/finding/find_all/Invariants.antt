use Rattle.std.proofs.Common.{◌≡◌, length, take}
use Rattle.limbo_top.specs.View.{placed}
use Rattle.limbo_entries.specs.View.{entries_of}
use Rattle.limbo_modules.specs.Found.{AreFound}
use Rattle.limbo_modules.proofs.finding.find_all.Given as goal

abbrev pub invariant-loop-standing : goal.invariant-loop-standing
invariant-loop-standing l = record {
  many : length l.found.items ≡ l.many;
  found : AreFound (entries_of l.table.entries.items) l.implemented (placed (take l.standing-index l.tops)) l.found.items;
}
