-- Which types values may have (Limbo Language Reference, types and module declarations; Sys).
use Rattle.std.specs.Prelude.{ℕ, ◌≡◌, ◌⊎◌, List, Option, Some}
use Rattle.limbo_types.specs.Types.{Ty, Tys, ArrayOf, ListOf, ChanOf, Tuple, Adt, Module, NoTys, MoreTys}
use Rattle.limbo_layout.specs.Adts.{Def, Names}
use Rattle.limbo_layout.specs.Layout.{Fits}
use Rattle.limbo_refusals.specs.Refusals.{Refusal, NotPlace, ModuleValue, TypeTooLarge}

-- A user's module type: any but that of the built-in `Sys`, whose number is told where there is one.
abbrev pub IsUserModule : (system : Option ℕ) → Ty → Type 0
IsUserModule system (Module n) = system ≡ Some n → ⊥
IsUserModule system _ = ⊥

-- A type is a user's module type, or one stands in it: in an array, a list, a channel or a tuple. What stands in an adt is asked where
-- the adt is declared.
abbrev mutual
  pub HasModule : (system : Option ℕ) → Ty → Type 0
  HasModule system (ArrayOf t) = HasModule system t
  HasModule system (ListOf t) = HasModule system t
  HasModule system (ChanOf t) = HasModule system t
  HasModule system (Tuple ts) = SomeHasModule system ts
  HasModule system t = IsUserModule system t

  pub SomeHasModule : (system : Option ℕ) → Tys → Type 0
  SomeHasModule system NoTys = ⊥
  SomeHasModule system (MoreTys t ts) = HasModule system t ⊎ SomeHasModule system ts

-- A user's module type stands inside a type.
abbrev pub HoldsModule : (system : Option ℕ) → Ty → Type 0
HoldsModule system (ArrayOf t) = HasModule system t
HoldsModule system (ListOf t) = HasModule system t
HoldsModule system (ChanOf t) = HasModule system t
HoldsModule system (Tuple ts) = SomeHasModule system ts
HoldsModule system _ = ⊥

-- A type is the adt `FD` of `Sys`, whose number is told where it is there, or holds it in an array, a list, a channel or a tuple: not
-- behind a `ref`.
abbrev mutual
  pub HoldsFd : (fd : Option ℕ) → Ty → Type 0
  HoldsFd fd (ArrayOf t) = HoldsFd fd t
  HoldsFd fd (ListOf t) = HoldsFd fd t
  HoldsFd fd (ChanOf t) = HoldsFd fd t
  HoldsFd fd (Tuple ts) = SomeHoldsFd fd ts
  HoldsFd fd (Adt n) = fd ≡ Some n
  HoldsFd fd _ = ⊥

  pub SomeHoldsFd : (fd : Option ℕ) → Tys → Type 0
  SomeHoldsFd fd NoTys = ⊥
  SomeHoldsFd fd (MoreTys t ts) = HoldsFd fd t ⊎ SomeHoldsFd fd ts

-- Values may have the type: each number in it names something, it takes at most 65,536 bytes, values of users' modules stay in variables,
-- and an `FD` stays behind its `ref`.
pub record IsAllowed (defs : List Def) (modules : ℕ) (system fd : Option ℕ) (t : Ty) : Type 0 where
  pub names : Names defs modules t
  pub fits : Fits defs t
  pub no_module : HoldsModule system t → ⊥
  pub no_fd : HoldsFd fd t → ⊥

-- Why a type is refused.
abbrev pub RefusesType : List Def → (modules : ℕ) → (system fd : Option ℕ) → Ty → Refusal → Type 0
RefusesType defs modules system fd t NotPlace = HoldsFd fd t
RefusesType defs modules system fd t ModuleValue = HoldsModule system t
RefusesType defs modules system fd t TypeTooLarge = Names defs modules t × Fits defs t → ⊥
RefusesType defs modules system fd t _ = ⊥

-- Nothing is allowed of which a refusal holds.
abbrev pub RefusedOrAllowed : Type 0
RefusedOrAllowed =
    (defs : List Def) (modules : ℕ) (system fd : Option ℕ) (t : Ty) (r : Refusal) →
    RefusesType defs modules system fd t r → IsAllowed defs modules system fd t → ⊥
