-- What was counted of the declarations so far.
use Rattle.std.specs.Prelude.{◌≡◌, ◌<◌, ◌+◌, ◌^◌, ℕ, Bool, ◌&&◌, List, [], ◌∷◌, ◌++◌, Some, count_by, slice_get}
use Rattle.limbo_entries.specs.Entries.{Entry}
use Rattle.limbo_naming.specs.Naming.{is_adt, is_module, is_variant}
use Rattle.limbo_type_names.specs.declared.numbers.Counts.{Counts}
use Rattle.limbo_type_names.specs.Numbers.{are_alike, is_inside}

abbrev pub is_adt_entry : Entry → Bool
is_adt_entry e = is_adt e.row.means

abbrev pub is_module_entry : Entry → Bool
is_module_entry e = is_module e.row.means

abbrev pub is_variant_in : ℕ → Entry → Bool
is_variant_in a e = is_variant e.row.means && is_inside (Some a) e.within

-- How many adts and modules are among these, and how many variants inside each declaration.
pub record AreCounts (before : List Entry) (c : Counts) : Type 0 where
  pub adts : c.adts ≡ count_by is_adt_entry before
  pub modules : c.modules ≡ count_by is_module_entry before
  pub variants : (a n : ℕ) → slice_get c.variants.items a ≡ Some n → n ≡ count_by (is_variant_in a) before

-- One more can be counted.
pub record HasRoom (c : Counts) : Type 0 where
  pub adts : c.adts + 1 < 2 ^ 32
  pub modules : c.modules + 1 < 2 ^ 32
  pub variants : (a n : ℕ) → slice_get c.variants.items a ≡ Some n → n + 1 < 2 ^ 32

-- This is the number of a declaration that stands behind those that were counted, and then it is counted too.
abbrev pub CountsOn : Entry → Counts → ℕ → Counts → Type 0
CountsOn e old n new =
    (before : List Entry) → AreCounts before old → (n ≡ count_by (are_alike e) before) × AreCounts (before ++ e ∷ []) new
