-- What holds of names, where each scope has each name once.
use Rattle.std.specs.Prelude.{◌≡◌, ℕ, List, Option}
use Rattle.limbo_entries.specs.Entries.{Entry, AreOnce}
use Rattle.limbo_naming.specs.Qualified.{Qualified}
use Rattle.limbo_naming.specs.Naming.{Leads, Names, Lacks}

abbrev pub OneLead : Type 0
OneLead = (es : List Entry) (m j r s : ℕ) → AreOnce es → Leads es m j r → Leads es m j s → r ≡ s

abbrev pub OneNamed : Type 0
OneNamed =
    (es : List Entry) (m : ℕ) (scope : Option ℕ) (q : Qualified) (r s : ℕ)
    → AreOnce es → Names es m scope q r → Names es m scope q s → r ≡ s

abbrev pub LacksOrNames : Type 0
LacksOrNames =
    (es : List Entry) (m : ℕ) (scope : Option ℕ) (q : Qualified) (r : ℕ) → AreOnce es → Lacks es m scope q → Names es m scope q r → ⊥
