-- What is let go in several drops is one cut.
use Rattle.std.proofs.Common.{◌≡◌, ℕ, ◌≤◌, ap, ◌∙◌}
use Rattle.heap_model.specs.Heap.{stays}
use Rattle.heap_cuts.proofs.Sooner.{early, twice_early}
use Rattle.ref_heap.specs.Store.{Store, outside}
use Rattle.dis_memory.specs.Naming.{inside}
use Rattle.dis_places.specs.declared.memory.Tables.{Tables}
use Rattle.dis_places.specs.Blocks.{view_heap}

pub cut_again : (t : Tables) (h h1 h2 : Store) → view_heap t h1 ≡ stays inside (outside h1) (view_heap t h) →
    view_heap t h2 ≡ stays inside (outside h2) (view_heap t h1) → ((n : ℕ) → outside h2 n ≤ outside h1 n) →
    view_heap t h2 ≡ stays inside (outside h2) (view_heap t h)
cut_again t h h1 h2 a b le =
    b ∙ ap (stays inside (outside h2)) a
    ∙ early inside (outside h2) (view_heap t h) (stays inside (outside h1) (view_heap t h))
    (twice_early inside (outside h1) (outside h2) (view_heap t h) le)
