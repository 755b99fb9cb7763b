-- What is told of names.
use Rattle.std.specs.Prelude.{◌≡◌, ℕ, List, Option}
use Rattle.limbo_entries.specs.Entries.{Entry}
use Rattle.limbo_entries.specs.View.{entries_of}
use Rattle.limbo_entries.specs.declared.table.Table.{Table}
use Rattle.limbo_naming.specs.declared.naming.Named.{Named}
use Rattle.limbo_naming.specs.declared.naming.Named.TheVariants as named
use Rattle.limbo_naming.specs.declared.naming.Naming.{Naming}
use Rattle.limbo_naming.specs.Qualified.{Qualified}
use Rattle.limbo_naming.specs.Naming.{Names, Lacks}
use Rattle.limbo_naming.specs.Search.{IsSight, AreDone}

abbrev pub Tells : List Entry → (m : ℕ) → (scope : Option ℕ) → Qualified → Named → Type 0
Tells es m scope q (named.Found r) = Names es m scope q r
Tells es m scope q named.Unknown = Lacks es m scope q
Tells es m scope q named.Nothing = (Lacks es m scope q → ⊥) × ((r : ℕ) → Names es m scope q r → ⊥)

abbrev pub TellsOf : Naming → (scope : Option ℕ) → Qualified → Named → Type 0
TellsOf n scope q result = Tells (entries_of n.table.now.entries.items) n.implemented scope q result

-- It is known of each declaration where it leads.
pub record Knows (n : Naming) : Type 0 where
  pub sight : IsSight (entries_of n.table.now.entries.items) n.implemented n.states.items
  pub done : AreDone n.states.items

-- It is what names name by this table and this implemented module.
pub record IsNaming (table : Table) (m : ℕ) (n : Naming) : Type 0 where
  pub by_table : n.table.now ≡ table
  pub by_module : n.implemented ≡ m
  pub knows : Knows n
