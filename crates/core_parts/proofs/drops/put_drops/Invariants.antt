use Rattle.std.proofs.Common.{◌≡◌, ◌++◌}
use Rattle.core_code.specs.Terms.{drops_from}
use Rattle.core_parts.specs.Lowered.{code_of}
use Rattle.core_parts.proofs.drops.put_drops.Given as goal

abbrev pub invariant-loop-reference : goal.invariant-loop-reference
invariant-loop-reference l = code_of l.drops.items ≡ code_of l.initial.drops.items ++ drops_from l.slot 0 l.reference
