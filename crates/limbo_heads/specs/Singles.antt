-- What stands once among arms.
use Rattle.std.specs.Prelude.{◌≡◌, ℕ, Bool, List, map, Some, slice_get}
use Rattle.limbo_cases.specs.declared.label.Label.{Label}
use Rattle.limbo_typed.specs.declared.stmt.AltArm as code_alt_arm
use Rattle.limbo_typed.specs.declared.stmt.PickArm as code_pick_arm
use Rattle.limbo_typed.specs.View.{view_alt_head}
use Rattle.limbo_stmt_values.specs.limbo_stating.Alts as alts
use Rattle.limbo_stmt_values.specs.limbo_stating.Picks as picks

-- a label of each number alone
abbrev pub singles : List ℕ → List (Label ℕ)
singles numbers = map (λ n. let l : Label ℕ = record { low = n; high = n } in l) numbers

-- No number stands at two places.
abbrev pub AreOnce : List ℕ → Type 0
AreOnce numbers = (i j n : ℕ) → slice_get numbers i ≡ Some n → slice_get numbers j ≡ Some n → i ≡ j

-- Arms that are `*`.
abbrev pub waits_not : code_alt_arm.AltArm → Bool
waits_not arm = alts.is_star (view_alt_head arm.head)

abbrev pub names_none : code_pick_arm.PickArm → Bool
names_none arm = picks.is_empty arm.variants.items
