-- What a refusal of unknown names says.
use Rattle.std.specs.Prelude.{◌≡◌, ℕ, List}
use Rattle.limbo_entries.specs.Entries.{Entry}
use Rattle.limbo_unknown.specs.declared.known.UnknownFault.{UnknownFault}
use Rattle.limbo_unknown.specs.declared.known.UnknownFault.TheVariants.{NoMemory, Unknown}
use Rattle.limbo_unknown.specs.Lacking.{HasUnknown}

-- Want of memory says nothing. Else the declaration stands in the text of this path.
abbrev pub Refuses : List Entry → (m : ℕ) → UnknownFault → Type 0
Refuses es m NoMemory = Unit {0}
Refuses es m (Unknown path at) = (unknown : HasUnknown es m) × (unknown.entry.row.path ≡ path.now)
