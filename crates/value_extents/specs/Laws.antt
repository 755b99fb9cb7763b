-- The references of wholes and of their parts.
use Rattle.std.specs.Prelude.{◌≡◌, ℕ, ◌*◌, ◌≤◌, List, take, Some, slice_get}
use Rattle.limbo_types.specs.Types.{Ty, Tys, Tuple, Adt}
use Rattle.limbo_layout.specs.Adts.{Def, parts, listed}
use Rattle.limbo_layout.specs.Layout.{Room, Laid}
use Rattle.limbo_meaning.specs.Operations.{size_of}
use Rattle.core_code.specs.Terms.{count_of, count_all, part_types}

pub record PartsMakeWholes : Type 0 where
  -- a tuple has the references of its parts
  pub tuples : (defs : List Def) (ts : Tys) → count_all defs (listed ts) ≡ count_of defs (Tuple ts)
  -- so has an adt with a layout
  pub adts : (defs : List Def) (n : ℕ) (d : Def) (r : Room) → slice_get defs n ≡ Some d → Laid defs (Adt n) r
      → count_all defs (parts d) ≡ count_of defs (Adt n)
  -- the first parts of a type with a layout have no more than the whole
  pub first : (defs : List Def) (t : Ty) (r : Room) (n : ℕ) → Laid defs t r
      → count_all defs (take n (part_types defs t)) ≤ count_of defs t
  -- each reference takes 4 bytes
  pub bytes : (defs : List Def) (t : Ty) → 4 * count_of defs t ≤ size_of defs t
