use Rattle.std.proofs.Common.{◌≡◌}
use Rattle.limbo_order.specs.View.{rows}
use Rattle.limbo_source_adts.specs.Empty.{none_each}
use Rattle.limbo_source_adts.proofs.inside.empty_rows.Given as goal

abbrev pub invariant-loop : goal.invariant-loop
invariant-loop l = rows l.all.items ≡ none_each l.counter
