use Rattle.std.proofs.Common.{take}
use Rattle.limbo_declarations.specs.Names.{IsIndex}
use Rattle.limbo_declarations.proofs.names.index.Given as goal

abbrev pub invariant-loop-number : goal.invariant-loop-number
invariant-loop-number l = IsIndex l.index (take l.number l.all)
