use Rattle.std.proofs.Common.{◌≡◌, ◌<◌, ℕ, Some, false}
use Rattle.limbo_entries.specs.Entries.{Entry, IsEntry}
use Rattle.limbo_entries.specs.View.{entries_of}
use Rattle.limbo_modules.specs.First.{is_draw_context}
use Rattle.limbo_modules.proofs.first.find_context.Given as goal

abbrev pub invariant-loop-number : goal.invariant-loop-number
invariant-loop-number l =
    (j : ℕ) (e : Entry) → j < l.number → IsEntry (entries_of l.table.entries.items) j e → is_draw_context (Some l.draw) e ≡ false
