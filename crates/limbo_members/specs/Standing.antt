-- Adts that may stand, as the code sees it.
use Rattle.std.specs.Prelude.{◌≡◌, ◌≤◌, ◌++◌, ℕ, List, length, take, Some, slice_get}
use Rattle.limbo_types.specs.Types.{Tuple}
use Rattle.limbo_types.specs.View.{tys_of}
use Rattle.limbo_layout.specs.Adts.{Def, parts}
use Rattle.limbo_allowed.specs.Allowed.{IsAllowed}
use Rattle.limbo_context.specs.Context.{Context}

-- An adt's parts together have a type that values may have.
abbrev pub IsAllowedIn : Context → Def → Type 0
IsAllowedIn c d = IsAllowed c.adts (length c.modules) c.system c.fd (Tuple (tys_of (parts d)))

-- Those of each adt from this number on do.
abbrev pub AreAllowed : (first : ℕ) → Context → Type 0
AreAllowed first c = (a : ℕ) (d : Def) → first ≤ a → slice_get c.adts a ≡ Some d → IsAllowedIn c d

-- The adts from this number on are these.
abbrev pub with_adts_in : (first : ℕ) → List Def → Context → Context
with_adts_in first ds c = record c { adts = take first c.adts ++ ds }
