use Rattle.std.proofs.Common.{◌≡◌, ◌+◌, ◌*◌, ◌≤◌, drop}
use Rattle.typed_part.specs.Part as part
use Rattle.typed_part.proofs.calls.written_size.Given as goal

abbrev pub invariant-loop-c : goal.invariant-loop-c
invariant-loop-c l =
    (l.size + part.written_size (drop l.c-index l.chars) ≡ part.written_size l.chars) × (l.size ≤ 2 * l.c-index)
