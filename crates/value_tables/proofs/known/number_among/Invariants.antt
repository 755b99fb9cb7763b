use Rattle.std.proofs.Common.{◌≡◌, ◌+◌, drop}
use Rattle.value_code.specs.Objects.{is_known, number_among}
use Rattle.value_tables.proofs.known.number_among.Given as goal

-- None so far is alike.
abbrev pub invariant-loop-number : goal.invariant-loop-number
invariant-loop-number l =
    (number_among l.descs l.desc ≡ l.number + number_among (drop l.number l.descs) l.desc)
    × (is_known l.descs l.desc ≡ is_known (drop l.number l.descs) l.desc)
