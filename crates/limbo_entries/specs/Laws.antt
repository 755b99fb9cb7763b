-- What holds of tables.
use Rattle.std.specs.Prelude.{◌≡◌, ◌<◌, ℕ, List, Option, Some}
use Rattle.limbo_declarations.specs.Rows.{Row}
use Rattle.limbo_entries.specs.Entries.{Entry, IsEntry, IsTable, AreOnce, Finds, HasTwice, IsAmong}

abbrev pub OneFound : Type 0
OneFound = (es : List Entry) (implemented : ℕ) (name : List ℕ) (scope : Option ℕ) (j k : ℕ) → AreOnce es
    → Finds es implemented name scope j → Finds es implemented name scope k → j ≡ k

abbrev pub WithinIsLess : Type 0
WithinIsLess = (top : List Row) (es : List Entry) (j k : ℕ) (e : Entry) → IsTable top es → IsEntry es k e → e.within ≡ Some j → j < k

abbrev pub AllAreThere : Type 0
AllAreThere = (top : List Row) (es : List Entry) (r : Row) → IsTable top es → IsAmong top r
    → (k : ℕ) × (e : Entry) × IsEntry es k e × (e.row ≡ r)

abbrev pub OneTable : Type 0
OneTable = (top : List Row) (es fs : List Entry) → IsTable top es → IsTable top fs → es ≡ fs

abbrev pub OnceIsNotTwice : Type 0
OnceIsNotTwice = (top : List Row) (es : List Entry) → IsTable top es → AreOnce es → HasTwice top → ⊥
