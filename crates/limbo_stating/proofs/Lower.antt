-- What holds of the crates below.
use Rattle.limbo_standing.specs.Laws.{OneSettled}
use Rattle.limbo_arguments.specs.Laws.{OneEach, EachOrFails}
use Rattle.limbo_things.specs.Laws.{OneName}
use Rattle.limbo_local.specs.limbo_typing.Laws.{OneTyped, OneValue, FailsOrTypes, FailsOrValue}
use Rattle.limbo_local.specs.Laws.{OneDeclared, FailsOrDeclares}

-- Each is one at most.
pub record OneBelow : Type 0 where
  pub typed : OneTyped
  pub value : OneValue
  pub settled : OneSettled
  pub each : OneEach
  pub name : OneName
  pub declared : OneDeclared

-- What fails is none.
pub record NoneBelow : Type 0 where
  pub typed : FailsOrTypes
  pub value : FailsOrValue
  pub each : EachOrFails
  pub declares : FailsOrDeclares
