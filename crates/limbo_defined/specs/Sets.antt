-- Sets of labels, as maps.
use Rattle.std.specs.Prelude.{◌≡◌, ℕ, List, Option, Some, None}
use Rattle.std.specs.List.{Contains}
use Rattle.std.specs.Ordering.{nat_cmp}
use Rattle.std.specs.Cmp.Lexicographic.{slice_cmp}
use Rattle.std.specs.BTreeMap.{BTreeMap, get_by}

-- What the map has for a label, if it has it.
abbrev pub get_label : BTreeMap (List ℕ) ℕ → List ℕ → Option ℕ
get_label set label = get_by (slice_cmp nat_cmp label) set

-- The map finds these labels and no others.
pub record IsSetOf (set : BTreeMap (List ℕ) ℕ) (all : List (List ℕ)) : Type 0 where
  pub found : (label : List ℕ) (k : ℕ) → get_label set label ≡ Some k → Contains all label
  pub absent : (label : List ℕ) → get_label set label ≡ None → Contains all label → ⊥
