-- What the code sees of a table.
use Rattle.std.specs.Prelude.{◌≡◌, ℕ, Option, Some}
use Rattle.limbo_entries.specs.View.{entries_of}
use Rattle.limbo_naming.specs.declared.sight.Sight.{Sight}
use Rattle.limbo_naming.specs.declared.state.Found.{Found}
use Rattle.limbo_naming.specs.Qualified.{Qualified}
use Rattle.limbo_naming.specs.Search.{IsSight, Says}

abbrev pub Sees : Sight → Type 0
Sees s = IsSight (entries_of s.table.now.entries.items) s.implemented s.states.now

abbrev pub SaysIn : Sight → Option ℕ → Qualified → Found → Type 0
SaysIn s scope q f = Says (entries_of s.table.now.entries.items) s.implemented s.states.now scope q f

-- of the name that an expression is
abbrev pub SaysOfExpr : Sight → Option ℕ → Option Qualified → Found → Type 0
SaysOfExpr s scope name f = (q : Qualified) × (name ≡ Some q) × SaysIn s scope q f
