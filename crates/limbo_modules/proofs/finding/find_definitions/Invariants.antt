use Rattle.std.proofs.Common.{◌≡◌, map, take, Some}
use Rattle.limbo_modules.specs.declared.finding.Found as code_found
use Rattle.limbo_modules.proofs.finding.find_definitions.Given as goal

abbrev pub invariant-loop-number : goal.invariant-loop-number
invariant-loop-number l = map (λ (f : code_found.Found). Some f) l.definitions.items ≡ take l.number l.definition-items
