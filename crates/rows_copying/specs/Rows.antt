-- Rows that copy elements of arrays.
use Rattle.std.specs.Prelude.{ℕ}
use Rattle.limbo_typed.specs.Typed as typed
use Rattle.core_code.specs.Code as core
use Rattle.value_follows.specs.Rows.{Base, InstrGoes}

-- The elements of an array, or of part of one, go over as many others of an array of the same type, which may be the same one, from an
-- index on; or there are not so many, and both processes end as broken. `nil` has no elements.
abbrev pub CopyIntosGo : Type 0
CopyIntosGo = (m : typed.Module) → Base m → (array start from : ℕ) → InstrGoes m (core.CopyInto array start from)
