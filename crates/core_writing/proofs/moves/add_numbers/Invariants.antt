use Rattle.std.proofs.Common.{◌≡◌, ◌++◌, List}
use Rattle.limbo_layout.specs.Adts.{Def}
use Rattle.core_code.specs.Terms.{numbers_from}
use Rattle.core_writing.proofs.moves.add_numbers.Given as goal

abbrev pub invariant-loop-i : goal.invariant-loop-i
invariant-loop-i l = (defs : List Def) → l.numbers.items ≡ l.initial.numbers.items ++ numbers_from defs l.from l.i
