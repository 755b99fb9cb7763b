use Rattle.std.proofs.Common.{◌≡◌, vec_len}
use Rattle.limbo_layout.proofs.order.empty_table.Given as goal

abbrev pub invariant-loop : goal.invariant-loop
invariant-loop l = vec_len l.rooms ≡ l.counter
