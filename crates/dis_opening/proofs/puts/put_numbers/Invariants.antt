use Rattle.std.proofs.Common.{◌≡◌, ℕ, ◌+◌, ◌-◌, ◌≤◌, length, drop}
use Rattle.ref_heap.specs.Store.{outside}
use Rattle.dis_places.specs.View.{view_world}
use Rattle.dis_opening.specs.Loading.{numbers_stored}
use Rattle.dis_opening.proofs.Numbering.{HasWords}
use Rattle.dis_opening.proofs.puts.put_numbers.Given as goal

-- What is left to be put in comes to the same.
abbrev pub invariant-loop-at : goal.invariant-loop-at
invariant-loop-at l = record {
  within : l.at ≤ length l.content;
  same : numbers_stored l.kind (view_world l.fn.memory) l.base.block.serial (l.base.from + l.offset) l.content
      ≡ numbers_stored l.kind (view_world l.memory) l.base.block.serial (l.base.from + l.offset + l.at) (drop l.at l.content);
  has : HasWords (view_world l.memory) l.base.block.serial;
  held : (n : ℕ) → outside l.memory.heap n ≡ outside l.fn.memory.heap n;
  tables : l.memory.tables ≡ l.fn.memory.tables;
}

abbrev pub decreases-loop-at : goal.decreases-loop-at
decreases-loop-at l = length l.content - l.at
