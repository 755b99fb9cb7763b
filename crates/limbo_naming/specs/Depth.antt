-- How far a name leads on: how many declarations are gone through.
use Rattle.std.specs.Prelude.{ℕ, suc, ◌+◌, ◌<◌, List, Option}
use Rattle.limbo_entries.specs.Entries.{Entry}
use Rattle.limbo_naming.specs.Qualified.{Qualified}
use Rattle.limbo_naming.specs.Naming.{Leads, itself, onward, Names, simple, member, part}

abbrev mutual
  pub depth : {es : List Entry} {m j r : ℕ} → Leads es m j r → ℕ
  depth (itself j e i n) = 0
  depth (onward j r e q i n d) = suc (depth_in d)

  pub depth_in : {es : List Entry} {m : ℕ} {scope : Option ℕ} {q : Qualified} {r : ℕ} → Names es m scope q r → ℕ
  depth_in (simple scope name k r f d) = suc (depth d)
  depth_in (member scope q name o k r d w e) = suc (depth_in d + depth e)
  depth_in (part scope q name o k r d w e) = suc (depth_in d + depth e)

-- Wherever declaration j leads, declaration k leads somewhere in fewer steps.
abbrev pub GoesThrough : List Entry → (m j k : ℕ) → Type 0
GoesThrough es m j k = (r : ℕ) (d : Leads es m j r) → (s : ℕ) × (e : Leads es m k s) × (depth e < depth d)

-- The same of a name that is written in a scope.
abbrev pub NamesThrough : List Entry → (m : ℕ) → Option ℕ → Qualified → (k : ℕ) → Type 0
NamesThrough es m scope q k = (r : ℕ) (d : Names es m scope q r) → (s : ℕ) × (e : Leads es m k s) × (depth e < depth_in d)
