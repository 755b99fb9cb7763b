use Rattle.std.proofs.Common.{◌≡◌, ◌++◌, length}
use Rattle.std.specs.Vec.Iter.{into_iter_items, into_iter_len}
use Rattle.core_parts.specs.Lowered.{code_of, codes_of, joined}
use Rattle.core_parts.proofs.lowered.join.Given as goal

-- What is joined, and what is left.
abbrev pub invariant-loop-own : goal.invariant-loop-own
invariant-loop-own l = record {
  told : code_of l.code.items ++ joined (codes_of (into_iter_items l.own-iterator))
      ≡ joined (codes_of (into_iter_items l.initial.own-iterator));
  counted : into_iter_len l.own-iterator ≡ length (into_iter_items l.own-iterator);
}
