use Rattle.std.proofs.Common.{◌≡◌, ℕ, List, map, Some}
use Rattle.std.specs.Prelude.{slice_get}
use Rattle.dis_code.specs.declared.code.Code.{Code}
use Rattle.dis_loading.specs.Growing.{IsBegun, IsEntered}
use Rattle.dis_loading.proofs.loading.load.Given as goal

-- The objects so far are entered.
abbrev pub invariant-loop-name : goal.invariant-loop-name
invariant-loop-name l =
    IsBegun l.tables
    × (map (λ c. (c.0, c.1.object)) l.codes.items ≡ l.yielded)
    × ((k : ℕ) (code : List ℕ × Code) → slice_get l.codes.items k ≡ Some code → IsEntered l.tables code.1)
