use Rattle.std.proofs.Common.{◌≡◌, ℕ, Some, Contains}
use Rattle.slab.specs.Slab.{get}
use Rattle.ref_heap.specs.declared.slots.Slot.{Slot}
use Rattle.ref_heap.proofs.slots.scan.Given as goal

-- each block of that serial is among the entries that are left, and every entry left is the slab's
abbrev pub invariant-loop-i : goal.invariant-loop-i
invariant-loop-i l =
    (goal.iterator-loop-i).can_next l.i-iterator ×
    (goal.iterator-loop-i).is_finite l.i-iterator ×
    ((key : ℕ) (b : Slot) → get l.slots key ≡ Some b → b.serial ≡ l.serial → Contains l.i-iterator (key, b)) ×
    ((key : ℕ) (b : Slot) → Contains l.i-iterator (key, b) → get l.slots key ≡ Some b)
