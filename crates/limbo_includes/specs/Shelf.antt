-- Where a text stands in a list of texts.
use Rattle.std.specs.Prelude.{◌≡◌, ℕ, ◌+◌, if◌then◌else◌, List, [], ◌∷◌, Option, None, Some}
use Rattle.std.specs.Ordering.{nat_cmp}
use Rattle.std.specs.Cmp.Lexicographic.{slice_cmp}
use Rattle.std.specs.BTreeMap.{BTreeMap, get_by}
use Rattle.limbo_includes.specs.declared.included.Included.{Included}
use Rattle.limbo_includes.specs.Includes.{is_same}

-- The number of the first text of a path, where the first of all has this number.
abbrev pub place_from : ℕ → List Included → List ℕ → Option ℕ
place_from n [] path = None
place_from n (t ∷ ts) path = if is_same t.path path then Some n else place_from (n + 1) ts path

abbrev pub place_of : List Included → List ℕ → Option ℕ
place_of included path = place_from 0 included path

-- The map says of each path where its text stands.
abbrev pub IsIndex : List Included → BTreeMap (List ℕ) ℕ → Type 0
IsIndex included places = (path : List ℕ) → get_by (slice_cmp nat_cmp path) places ≡ place_of included path
