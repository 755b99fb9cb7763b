-- Why an expression has no typed tree (Limbo Language Reference, expressions and scope).
use Rattle.std.specs.Prelude.{◌≡◌, ℕ, Option, None, Some, option_map}
use Rattle.limbo_refusals.specs.Refusals as refusals
use Rattle.limbo_refusals.specs.Refusals.{Refusal, Clash}
use Rattle.limbo_types.specs.Types.{Nothing}
use Rattle.limbo_causes.specs.declared.fault.Cause as code
use Rattle.limbo_causes.specs.declared.fault.Cause.TheVariants as told_cause

-- A name is declared twice in one block, or `*` stands twice; a name isn't seen; an index isn't constant; a refusal of typed parts.
pub data Cause : Type 0 where
  Twice : Cause
  Unknown : Cause
  NotConstant : Cause
  Refused : Refusal → Cause

-- two types that nothing has
abbrev pub nothing : Cause
nothing = Refused (Clash Nothing Nothing)

abbrev pub number_of : Cause → ℕ
number_of Twice = 41
number_of Unknown = 42
number_of NotConstant = 43
number_of (Refused r) = refusals.number_of r

-- the cause that is told: want of memory tells none
abbrev pub told : code.Cause → Option Cause
told told_cause.NoMemory = None
told told_cause.Twice = Some Twice
told told_cause.Unknown = Some Unknown
told told_cause.NotConstant = Some NotConstant
told (told_cause.Refused f) = option_map Refused (refusals.told f)

-- What is told, if anything is, is such a cause.
abbrev pub FailsBy : code.Cause → (Cause → Type 0) → Type 0
FailsBy f P = elim (told f) [ None ↦ Unit {0} | Some k ↦ P k ]

-- The cause is a refusal of typed parts of which this holds.
abbrev pub ByRefusal : (Refusal → Type 0) → Cause → Type 0
ByRefusal P k = (r : Refusal) × (k ≡ Refused r) × P r
