-- A heap with counts, told as a list of places without them.
use Rattle.std.specs.Prelude.{ℕ, zero, suc, [], ◌∷◌, ◌++◌}
use Rattle.std.specs.Option.{option_map}
use Rattle.ref_heap.specs.declared.kind.Kind.{Kind}
use Rattle.ref_heap.specs.Words.{Content, cells, naming}
use Rattle.ref_heap.specs.Store.{Block, Blocks, Store, at, limit}
use Rattle.heap_model.specs.Heap.{Heap}

-- What a block is and what it holds, without how many references to it there are.
abbrev pub Shape : Type 0
Shape = Kind × Content

abbrev pub shape_of : Block → Shape
shape_of b = (b.kind, b.content)

-- How often a block of this shape names each.
abbrev pub naming_of : Shape → ℕ → ℕ
naming_of s n = naming (cells s.1) n

-- The blocks of serials below the limit, each at the place of its serial. A place is empty where none is live.
abbrev pub shapes_below : ℕ → Blocks → Heap Shape
shapes_below zero m = []
shapes_below (suc n) m = shapes_below n m ++ option_map shape_of (m n) ∷ []

-- The live blocks of a heap by their serials.
abbrev pub shapes : Store → Heap Shape
shapes h = shapes_below (limit h) (at h)
