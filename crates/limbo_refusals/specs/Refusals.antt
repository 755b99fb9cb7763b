-- Why an expression is refused (Limbo Language Reference, expressions).
use Rattle.std.specs.Prelude.{ℕ, Option, None, Some, option_map}
use Rattle.limbo_types.specs.Types.{Ty}
use Rattle.limbo_types.specs.View.{view_ty}
use Rattle.limbo_refusals.specs.declared.fault.ExprFault.{ExprFault}
use Rattle.limbo_refusals.specs.declared.fault.ExprFault.TheVariants as fault

-- Two types that don't fit; what is stored into is no place; a store that could make a heap value reach itself; a value of a module's
-- type where none may stand; a format that is none or doesn't fit; a type that is too large.
pub data Refusal : Type 0 where
  Clash : (left right : Ty) → Refusal
  NotPlace : Refusal
  CyclicStore : Refusal
  ModuleValue : Refusal
  BadFormat : Refusal
  TypeTooLarge : Refusal

-- the refusal that is told: want of memory tells none
abbrev pub told : ExprFault → Option Refusal
told fault.NoMemory = None
told (fault.Clash c) = Some (Clash (view_ty c.value.left) (view_ty c.value.right))
told fault.NotPlace = Some NotPlace
told fault.CyclicStore = Some CyclicStore
told fault.ModuleValue = Some ModuleValue
told fault.BadFormat = Some BadFormat
told fault.TypeTooLarge = Some TypeTooLarge

-- What is told, if anything is, is such a refusal.
abbrev pub Refuses : ExprFault → (Refusal → Type 0) → Type 0
Refuses f P = elim (told f) [ None ↦ Unit {0} | Some r ↦ P r ]

abbrev pub number_of : Refusal → ℕ
number_of (Clash left right) = 50
number_of NotPlace = 51
number_of CyclicStore = 52
number_of ModuleValue = 53
number_of BadFormat = 54
number_of TypeTooLarge = 55

abbrev pub number : ExprFault → Option ℕ
number f = option_map number_of (told f)

-- There is nothing of which this holds.
abbrev pub NoneIs : {A : Type 0} → (A → Type 0) → Type 0
NoneIs {A} P = (x : A) → P x → ⊥
