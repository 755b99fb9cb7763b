-- What is told of a statement that is none.
use Rattle.std.specs.Prelude.{Option, None, Some, option_map}
use Rattle.limbo_causes.specs.Causes.{told}
use Rattle.limbo_stating.specs.Reasons as reasons
use Rattle.limbo_stating.specs.Reasons.{Reason, ByPart}
use Rattle.limbo_stmt_values.specs.declared.fault.Why.{Why}
use Rattle.limbo_stmt_values.specs.declared.fault.Why.TheVariants.{Part, CaseOverlap, BadAlt, BadPick, NoReturn, BadLabel}

-- the reason that is told: want of memory tells none
abbrev pub reason_told : Why → Option Reason
reason_told (Part c) = option_map ByPart (told c)
reason_told CaseOverlap = Some reasons.CaseOverlap
reason_told BadAlt = Some reasons.BadAlt
reason_told BadPick = Some reasons.BadPick
reason_told NoReturn = Some reasons.NoReturn
reason_told BadLabel = Some reasons.BadLabel

-- What is told, if anything is, is such a reason.
abbrev pub FailsFor : Why → (Reason → Type 0) → Type 0
FailsFor w P = elim (reason_told w) [ None ↦ Unit {0} | Some k ↦ P k ]
