use Rattle.std.proofs.Common.{◌≡◌, ◌+◌, ◌++◌, List, None, length, reverse}
use Rattle.limbo_types.specs.View.{view_ty}
use Rattle.limbo_layout.specs.Adts.{Def}
use Rattle.core_code.specs.Terms.{cells}
use Rattle.core_parts.specs.Lowered.{code_of}
use Rattle.core_parts.proofs.several.put_cells.Given as goal

-- What is written, and what is left.
abbrev pub invariant-loop-last : goal.invariant-loop-last
invariant-loop-last l = record {
  told : (defs : List Def) → code_of l.code.items ++ cells defs (view_ty l.item) (reverse l.rest) l.behind l.slot
      ≡ code_of l.initial.code.items ++ cells defs (view_ty l.item) (reverse l.items) None l.free;
  counted : l.slot + length l.rest ≡ l.free + length l.items;
}

abbrev pub decreases-loop-last : goal.decreases-loop-last
decreases-loop-last l = length l.rest
