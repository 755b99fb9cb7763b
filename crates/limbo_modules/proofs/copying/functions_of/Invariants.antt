use Rattle.std.proofs.Common.{◌≡◌, take}
use Rattle.limbo_functions.specs.View.{definitions_of}
use Rattle.limbo_modules.specs.Found.{view_found}
use Rattle.limbo_modules.proofs.copying.functions_of.Given as goal

abbrev pub invariant-loop-definition : goal.invariant-loop-definition
invariant-loop-definition l = definitions_of l.functions.items ≡ view_found (take l.definition-index l.found)
