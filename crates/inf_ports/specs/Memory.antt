-- What the forms in memory tell, and which of their calls fail.
use Rattle.std.specs.Prelude.{◌≡◌, ℕ, ◌+◌, ◌-◌, ◌^◌, min, List, Option, option_map, nat_eq, Contains}
use Rattle.std.specs.List.{find}
use Rattle.std.specs.Cmp.Lexicographic.{pointwise}
use Rattle.inf_ports.specs.declared.plan.Plan.{Plan}

-- the bytes of the first of these files, pairs of a path and bytes, whose path this is
abbrev pub bytes_at : List (List ℕ × List ℕ) → List ℕ → Option (List ℕ)
bytes_at files path = option_map (λ file. file.1) (find (λ file. pointwise nat_eq file.0 path) files)

-- no call was made yet, and these are the numbers of the calls that are to fail
abbrev pub IsFresh : Plan → List ℕ → Type 0
IsFresh plan failing = (plan.failing.items ≡ failing) × (plan.calls ≡ 0) × (plan.faults ≡ 0)

-- the number of the next call is listed to fail
abbrev pub FailsNext : Plan → Type 0
FailsNext plan = Contains plan.failing.items plan.calls

-- A call was made: it is counted, up to the end of the 64 bits, and the same calls are listed to fail.
pub record Called (old new : Plan) : Type 0 where
  pub counted : new.calls ≡ min (old.calls + 1) (2 ^ 64 - 1)
  pub listed : new.failing ≡ old.failing
