-- The refusals of a source by its declarations.
use Rattle.std.specs.Prelude.{◌≡◌, ℕ, List, Option, Some, slice_get}
use Rattle.std.specs.Borrow.{Bor}
use Rattle.limbo_tree.specs.declared.types.TypeTree as code_type
use Rattle.limbo_declarations.specs.declared.row.Declared.TheVariants as declared
use Rattle.limbo_entries.specs.declared.entry.Entry as code_entry
use Rattle.limbo_entries.specs.View.{entries_of}
use Rattle.limbo_type_names.specs.declared.fault.TypesFault.{TypesFault}
use Rattle.limbo_type_names.specs.declared.fault.TypesFault.TheVariants.{NoMemory, Unknown, NotAType, TypeTooLarge}
use Rattle.limbo_type_names.specs.Writes.{HasUnknown, HasNoType}
use Rattle.limbo_type_names.specs.Needs.{IsCircular}

-- The declaration of this number is a name by `type`: what is written there, and its scope.
pub record IsByType (all : List code_entry.Entry) (number : ℕ) (scope : Option ℕ) (t : code_type.TypeTree) : Type 0 where
  pub entry : code_entry.Entry
  pub there : slice_get all number ≡ Some entry
  pub within : entry.within ≡ scope
  pub of : Bor code_type.TypeTree
  pub is : entry.row.declared ≡ declared.Alias of
  pub writes : of.now ≡ t

-- Why not every name by `type` stands for a type. A want of memory says nothing.
abbrev pub FailsAt : List code_entry.Entry → (m : ℕ) → TypesFault → Type 0
FailsAt all m NoMemory = Unit {0}
FailsAt all m (Unknown k at) =
    (scope : Option ℕ) × (t : code_type.TypeTree) × IsByType all k scope t × HasUnknown (entries_of all) m scope t at
FailsAt all m (NotAType k at) =
    (scope : Option ℕ) × (t : code_type.TypeTree) × IsByType all k scope t × HasNoType (entries_of all) m scope t at
FailsAt all m (TypeTooLarge k) = IsCircular (entries_of all) m k
