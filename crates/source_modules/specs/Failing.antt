-- Why a source is no typed module, with the texts that it includes, and the numbers of refusals.
use Rattle.std.specs.Prelude.{ℕ, List}
use Rattle.inf_ports.specs.Outside.{Told}
use Rattle.limbo_tree.specs.Sources.{Source}
use Rattle.limbo_top.specs.Tops.{Placed}
use Rattle.limbo_entries.specs.Entries.{Entry}
use Rattle.limbo_declare.specs.Declares.{Declares}
use Rattle.limbo_modules.specs.limbo_stating.Reasons as reasons
use Rattle.limbo_modules.specs.limbo_stating.Reasons.{Reason}
use Rattle.limbo_modules.specs.Failing.{FailsModule}
use Rattle.source_names.specs.Declares as names
use Rattle.source_names.specs.Declares.{HasRow}
use Rattle.source_names.specs.declared.refusal.Refusal.{Refusal}
use Rattle.source_modules.specs.declared.fault.ModuleFault.{ModuleFault}
use Rattle.source_modules.specs.declared.fault.ModuleFault.TheVariants.{NoMemory, Refused}

-- A condition of includes and names isn't met (40 to 44); or they all are, and one of types, functions and statements isn't (41 to 43,
-- 50 to 55, 60 to 64).
pub data Fails (told : Told) (path : List ℕ) (tree : Source) : (number : ℕ) → Type 0 where
  by_names : (r : Refusal) → names.Fails told path tree r → Fails told path tree (names.number_of r)
  by_types : (name : List ℕ) (row : List Placed) (es : List Entry) (m : ℕ) (k : Reason) → HasRow told path tree name row
      → Declares name row es m → FailsModule name row es m k → Fails told path tree (reasons.number_of k)

-- What a fault says: a refusal, or want of memory.
abbrev pub FailsBy : Told → List ℕ → Source → ModuleFault → Type 0
FailsBy told path tree NoMemory = Unit {0}
FailsBy told path tree (Refused number file at) = Fails told path tree number
