use Rattle.std.proofs.Common.{◌≡◌, ℕ, ◌+◌}
use Rattle.std.specs.Option.{option_map}
use Rattle.ref_heap.specs.declared.word.Ref.{Ref}
use Rattle.dis_memory.specs.Kinds.{cells_from, list_length}
use Rattle.dis_places.specs.View.{view_world}
use Rattle.dis_kinds.proofs.Chained.{more}
use Rattle.dis_kinds.proofs.lists.list_length.Given as goal

-- The cells so far and those of what is left are all.
abbrev pub invariant-loop-count : goal.invariant-loop-count
invariant-loop-count l =
    (k : ℕ) → l.count + k ≡ l.most →
    list_length (view_world l.memory) (option_map (λ (r : Ref). r.serial) l.fn.list)
    ≡ more l.count (cells_from (view_world l.memory) k (option_map (λ (r : Ref). r.serial) l.left))
