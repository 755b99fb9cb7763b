use Rattle.std.proofs.Common.{◌≡◌, ◌<◌, ℕ, false}
use Rattle.limbo_entries.specs.Entries.{Entry, IsEntry}
use Rattle.limbo_entries.specs.View.{entries_of}
use Rattle.limbo_exports.specs.System.{is_fd}
use Rattle.limbo_exports.proofs.system.find_fd.Given as goal

abbrev pub invariant-loop-number : goal.invariant-loop-number
invariant-loop-number l = (j : ℕ) (e : Entry) → j < l.number → IsEntry (entries_of l.table.entries.items) j e → is_fd l.builtin e ≡ false
