-- Which row of a scope a name is (Limbo Language Reference, scope).
use Rattle.std.specs.Prelude.{◌≡◌, ◌↔◌, ◌<◌, ℕ, List, map, Some, slice_get}
use Rattle.std.specs.Ordering.{nat_cmp}
use Rattle.std.specs.Cmp.Lexicographic.{slice_cmp}
use Rattle.std.specs.BTreeMap.{BTreeMap, get_by}
use Rattle.limbo_declarations.specs.declared.row.Row as code_row

-- the names that rows declare
abbrev pub names : List code_row.Row → List (List ℕ)
names rows = map (λ r. r.name.now.text) rows

-- This name stands there.
abbrev pub IsAt : List (List ℕ) → ℕ → List ℕ → Type 0
IsAt all k name = slice_get all k ≡ Some name

-- No name stands at two places.
abbrev pub AreOnce : List (List ℕ) → Type 0
AreOnce all = (i j : ℕ) (name : List ℕ) → IsAt all i name → IsAt all j name → i ≡ j

-- The name that stands there stands before it too.
pub record IsRepeated (all : List (List ℕ)) (k : ℕ) : Type 0 where
  pub before : ℕ
  pub name : List ℕ
  pub is_before : before < k
  pub there : IsAt all k name
  pub and_there : IsAt all before name

-- This row declares a name that a row before it declares.
pub record IsAgain (rows : List code_row.Row) (r : code_row.Row) : Type 0 where
  pub place : ℕ
  pub there : slice_get rows place ≡ Some r
  pub repeated : IsRepeated (names rows) place

-- The map finds each name where it stands, and no other.
abbrev pub IsIndex : BTreeMap (List ℕ) ℕ → List (List ℕ) → Type 0
IsIndex index all = (name : List ℕ) (k : ℕ) → (get_by (slice_cmp nat_cmp name) index ≡ Some k) ↔ IsAt all k name
