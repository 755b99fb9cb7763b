-- What holds of values where types are asked for.
use Rattle.std.specs.Prelude.{◌≡◌, List}
use Rattle.limbo_types.specs.Types.{Ty}
use Rattle.limbo_typed.specs.Typed.{Exprs}
use Rattle.limbo_typed.specs.Fitting.{AllStand, EachStands}
use Rattle.limbo_typed.specs.Sound.{types_of}
use Rattle.limbo_refusals.specs.Refusals.{Refusal}
use Rattle.limbo_standing.specs.Standing.{SettleEach, SettleAll}
use Rattle.limbo_arguments.specs.Failing.{FailsEach, FailsAll}

-- Where types are asked for, values are such values at most once.
abbrev pub OneEach : Type 0
OneEach = (ts : List Ty) (es fs gs : Exprs) → SettleEach ts es fs → SettleEach ts es gs → fs ≡ gs

abbrev pub OneAll : Type 0
OneAll = (t : Ty) (es fs gs : Exprs) → SettleAll t es fs → SettleAll t es gs → fs ≡ gs

-- Those have types that stand there.
abbrev pub EachStand : Type 0
EachStand = (ts : List Ty) (es fs : Exprs) → SettleEach ts es fs → AllStand (types_of fs) ts

abbrev pub AllStandFor : Type 0
AllStandFor = (t : Ty) (es fs : Exprs) → SettleAll t es fs → EachStands (types_of fs) t

-- Where there is a refusal of values, they are nothing there.
abbrev pub EachOrFails : Type 0
EachOrFails = (whole : Ty) (ts : List Ty) (es fs : Exprs) (r : Refusal) → FailsEach whole ts es r → SettleEach ts es fs → ⊥

abbrev pub AllOrFails : Type 0
AllOrFails = (t : Ty) (es fs : Exprs) (r : Refusal) → FailsAll t es r → SettleAll t es fs → ⊥
