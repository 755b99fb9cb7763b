-- Why a value is no label of a type.
use Rattle.std.specs.Prelude.{◌≡◌, ◌≢◌, None}
use Rattle.limbo_types.specs.Types.{Ty}
use Rattle.limbo_typed.specs.Typed.{Expr}
use Rattle.limbo_typed.specs.Sound.{type_of}
use Rattle.limbo_refusals.specs.Refusals.{Clash}
use Rattle.limbo_causes.specs.Causes.{Refused}
use Rattle.limbo_folding.specs.Folding.{value_of}
use Rattle.limbo_stating.specs.Reasons.{Reason, ByPart, CaseOverlap}

pub data IsNoLabel (t : Ty) (x : Expr) : Reason → Type 0 where
  other_type : type_of x ≢ t → IsNoLabel t x (ByPart (Refused (Clash (type_of x) t)))
  not_constant : value_of x ≡ None → IsNoLabel t x CaseOverlap
