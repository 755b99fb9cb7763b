-- The declarations that stand inside one.
use Rattle.std.specs.Prelude.{◌≡◌, ℕ, zero, suc, if◌then◌else◌, List, [], ◌∷◌, ◌++◌, Some, length, slice_get}
use Rattle.limbo_entries.specs.Entries.{Entry}
use Rattle.limbo_headers.specs.limbo_type_names.Numbers.{is_inside}

-- The numbers of those that stand inside declaration a, in order, where the first of the list has the number k.
abbrev pub inside_from : ℕ → List Entry → (a : ℕ) → List ℕ
inside_from k [] a = []
inside_from k (e ∷ es) a = (if is_inside (Some a) e.within then k ∷ [] else []) ++ inside_from (suc k) es a

abbrev pub numbers_inside : List Entry → (a : ℕ) → List ℕ
numbers_inside es a = inside_from 0 es a

-- Each row has what stands inside the declaration of its number.
pub record AreInside (es : List Entry) (rows : List (List ℕ)) : Type 0 where
  pub many : length rows ≡ length es
  pub each : (a : ℕ) (row : List ℕ) → slice_get rows a ≡ Some row → row ≡ numbers_inside es a

-- one more number in the row of a declaration
abbrev pub with_number : List (List ℕ) → ℕ → ℕ → List (List ℕ)
with_number [] a n = []
with_number (r ∷ rs) zero n = (r ++ (n ∷ [])) ∷ rs
with_number (r ∷ rs) (suc a) n = r ∷ with_number rs a n
