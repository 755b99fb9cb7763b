use Rattle.std.proofs.Common.{◌≡◌, ℕ, ◌+◌, length}
use Rattle.heap_model.specs.Heap.{stays}
use Rattle.ref_heap.specs.Store.{outside}
use Rattle.dis_meaning.specs.Counts.{in_frames}
use Rattle.dis_memory.specs.Naming.{inside}
use Rattle.dis_places.specs.declared.memory.Tables.{Tables}
use Rattle.dis_places.specs.Blocks.{view_heap, AreProper}
use Rattle.dis_places.specs.Frames.{view_frames}
use Rattle.dis_steps.proofs.ending.let_go_all.Given as goal

-- All but what the frames that are left refer to is let go, in one cut.
abbrev pub invariant-loop-frame : goal.invariant-loop-frame
invariant-loop-frame l =
    ((n : ℕ) → outside l.heap n + in_frames n (view_frames l.frames) ≡ outside l.fn.heap n + in_frames n (view_frames l.rest))
    × ((t : Tables) → view_heap t l.heap ≡ stays inside (outside l.heap) (view_heap t l.fn.heap))
    × AreProper l.heap

abbrev pub decreases-loop-frame : goal.decreases-loop-frame
decreases-loop-frame l = length l.rest
