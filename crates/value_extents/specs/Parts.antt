-- Which references of a value are those of a part of it.
use Rattle.std.specs.Prelude.{◌≡◌, ℕ, ◌+◌, ◌≤◌, List, take, slice_index_or}
use Rattle.limbo_types.specs.Types as ty
use Rattle.limbo_types.specs.Types.{Ty}
use Rattle.limbo_layout.specs.Adts.{Def}
use Rattle.limbo_layout.specs.Layout.{limit}
use Rattle.core_code.specs.Terms.{count_of, count_all}
use Rattle.value_extents.specs.declared.extents.PartReferences.{PartReferences}

-- Of a part that isn't there there are none: an int and nothing have as many.
pub record IsPart (defs : List Def) (types : List Ty) (part : ℕ) (r : PartReferences) : Type 0 where
  pub before : r.before ≡ count_all defs (take part types)
  pub or_int : r.count ≡ count_of defs (slice_index_or types part ty.Int)
  pub or_nothing : r.count ≡ count_of defs (slice_index_or types part ty.Nothing)
  pub within : r.before + r.count ≤ limit
