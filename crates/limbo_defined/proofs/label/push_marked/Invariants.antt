use Rattle.std.proofs.Common.{◌≡◌, ◌++◌, drop}
use Rattle.limbo_defined.specs.Labels.{marked}
use Rattle.limbo_defined.proofs.label.push_marked.Given as goal

abbrev pub invariant-loop-c : goal.invariant-loop-c
invariant-loop-c l = l.chars.items ++ marked (drop l.c-index l.name) ≡ l.fn.chars.items ++ marked l.name
