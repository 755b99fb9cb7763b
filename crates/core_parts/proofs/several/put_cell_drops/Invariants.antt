use Rattle.std.proofs.Common.{◌≡◌, ◌++◌, List}
use Rattle.limbo_layout.specs.Adts.{Def}
use Rattle.core_code.specs.Terms.{cell_drops}
use Rattle.core_parts.specs.Lowered.{code_of}
use Rattle.core_parts.proofs.several.put_cell_drops.Given as goal

abbrev pub invariant-loop-i : goal.invariant-loop-i
invariant-loop-i l = (defs : List Def) → code_of l.drops.items ≡ code_of l.initial.drops.items ++ cell_drops defs l.i l.free
