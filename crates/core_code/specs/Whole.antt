-- Values of tuples and of adts have the parts that their types say, and the references of these.
use Rattle.std.specs.Prelude.{◌≡◌, ℕ, List, Some, slice_get}
use Rattle.limbo_types.specs.Types.{Ty, Tys, Tuple, Adt}
use Rattle.limbo_layout.specs.Adts as adts
use Rattle.limbo_layout.specs.Adts.{Def, parts}
use Rattle.limbo_layout.specs.Layout.{Room, Laid}
use Rattle.limbo_meaning.specs.Values.{Value, Parts, row, listed, parts_of, fitted, all_fitted}
use Rattle.core_code.specs.Terms.{count_of, count_all, part_types}

-- The parts of a value as ones of these types, in order.
abbrev pub with_parts : List Def → List Ty → Value → Value
with_parts defs ts v = Parts (row (all_fitted defs ts (listed (parts_of v))))

-- No adt that has a layout lies in itself; so each of its values is whole, however deep adts lie in one another.
pub record ValuesAreWhole : Type 0 where
  pub tuples : (defs : List Def) (ts : Tys) (v : Value) → fitted defs (Tuple ts) v ≡ with_parts defs (adts.listed ts) v
  pub adts : (defs : List Def) (n : ℕ) (d : Def) (r : Room) (v : Value) →
      Laid defs (Adt n) r → slice_get defs n ≡ Some d → fitted defs (Adt n) v ≡ with_parts defs (parts d) v
  -- as many references as their parts have together, of which the code counts those in front of a part
  pub counts_of_tuples : (defs : List Def) (ts : Tys) → count_of defs (Tuple ts) ≡ count_all defs (part_types defs (Tuple ts))
  pub counts_of_adts : (defs : List Def) (n : ℕ) (r : Room) →
      Laid defs (Adt n) r → count_of defs (Adt n) ≡ count_all defs (part_types defs (Adt n))
