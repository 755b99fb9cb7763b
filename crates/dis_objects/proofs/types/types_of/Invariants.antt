use Rattle.std.proofs.Common.{◌≡◌, ◌∷◌, ◌++◌, drop, map}
use Rattle.slot_code.specs.View.{view_function}
use Rattle.dis_objects.specs.Objects.{frame_desc, map_of}
use Rattle.dis_objects.proofs.types.types_of.Given as goal

-- The types so far and those of the functions that are left are the whole.
abbrev pub invariant-loop-f : goal.invariant-loop-f
invariant-loop-f l = l.types.items ++ map (frame_desc (map view_function l.functions)) (map view_function (drop l.f-index l.functions))
    ≡ record { size = l.size; map = map_of l.words } ∷ map (frame_desc (map view_function l.functions)) (map view_function l.functions)
