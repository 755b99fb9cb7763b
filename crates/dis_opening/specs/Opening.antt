-- A machine as it begins, as the definition has it.
use Rattle.std.specs.Prelude.{◌≡◌, ℕ, List, [], ◌∷◌, Some}
use Rattle.heap_model.specs.Heap.{stays}
use Rattle.system_model.specs.World.{opening_world}
use Rattle.ref_heap.specs.Store.{one, outside}
use Rattle.dis_meaning.specs.Words.{Word}
use Rattle.dis_memory.specs.Blocks.{Instance}
use Rattle.dis_memory.specs.Naming.{inside}
use Rattle.dis_counts.specs.Opening as meaning
use Rattle.dis_places.specs.declared.memory.Memory.{Memory}
use Rattle.dis_places.specs.View.{view_process, view_world}
use Rattle.dis_opening.specs.declared.opening.Opened.{Opened}

abbrev pub view_opened : Opened → meaning.Opened
view_opened o = record { world = view_world o.memory; first = view_process o.process }

-- Before any item is in, there is the instance of the program's first module alone, with these words, and items go into it.
abbrev pub begun : List Word → meaning.Loading
begun words =
    meaning.loading
    (record { heap = Some (Instance 0 words) ∷ []; outside = record { frames = 1; outside = opening_world } })
    (record { serial = 0; from = 0 }) []

-- All that is held outside of blocks is one reference to the instance, and what nobody names then is gone.
pub record IsSettled (m m' : Memory) : Type 0 where
  pub held : (n : ℕ) → outside m'.heap n ≡ one 0 n
  pub heap : (view_world m').heap ≡ stays inside (outside m'.heap) (view_world m).heap
  pub outer : (view_world m').outside ≡ (view_world m).outside
  pub tables : m'.tables ≡ m.tables
