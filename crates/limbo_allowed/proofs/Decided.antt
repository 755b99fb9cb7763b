-- Each test says what the definition says.
use Rattle.std.proofs.Common.{◌≡◌, ℕ, ◌<◌, Bool, true, false, ◌↔◌, IsTrue, List, length, Option, Some, None, refl, sym, ap, subst, ◌∙◌, ◌≤◌}
use Rattle.std.specs.Prelude.{Decides, slice_get}
use Rattle.std.proofs.lemmas.Bool.Decides.{Decides-eqb, Decides-ltb, Decides-and, Decides-or, Decides-not}
use Rattle.limbo_types.specs.Types.{Ty, Tys, ArrayOf, ListOf, ChanOf, Tuple, Adt, RefAdt, RefPick, Module, NoTys, MoreTys}
use Rattle.limbo_layout.specs.Adts.{Def, Names, AllName, HasVariant}
use Rattle.limbo_allowed.specs.Allowed.{IsUserModule, HasModule, SomeHasModule, HoldsModule, HoldsFd, SomeHoldsFd}
use Rattle.limbo_allowed.specs.Allowed.{RefusedOrAllowed}
use Rattle.limbo_layout.specs.Layout.{IsLayout, Fits, limit}
use Rattle.limbo_refusals.specs.Refusals.{NotPlace, ModuleValue, TypeTooLarge}
use Rattle.limbo_allowed.specs.Choosing.{is_number, is_user_module, has_module, some_has_module, holds_module, holds_fd, some_holds_fd}
use Rattle.limbo_allowed.specs.Choosing.{has_variant, is_named, all_named}

never : {P : Type 0} → (P → ⊥) → Decides false P
never not_so = (λ e. absurd cc, λ p. absurd (not_so p))

always : {P : Type 0} → P → Decides true P
always p = (λ e. p, λ q. refl)

number : (o : Option ℕ) (n : ℕ) → Decides (is_number o n) (o ≡ Some n)
number (Some m) n = let d = Decides-eqb m n in (λ e. ap Some (d.0 e), λ e. d.1 (let f : m ≡ n = cc in f))
number None n = never (λ e. cc)

pub user_module : (system : Option ℕ) (t : Ty) → Decides (is_user_module system t) (IsUserModule system t)
user_module system (Module n) = Decides-not (is_number system n) (number system n)
user_module system _ = never (λ h. h)

mutual
  has_modules : (system : Option ℕ) (t : Ty) → Decides (has_module system t) (HasModule system t)
  has_modules system (ArrayOf t) = has_modules system t
  has_modules system (ListOf t) = has_modules system t
  has_modules system (ChanOf t) = has_modules system t
  has_modules system (Tuple ts) = some_modules system ts
  has_modules system (Module n) = user_module system (Module n)
  has_modules system _ = never (λ h. h)

  some_modules : (system : Option ℕ) (ts : Tys) → Decides (some_has_module system ts) (SomeHasModule system ts)
  some_modules system NoTys = never (λ h. h)
  some_modules system (MoreTys t ts) =
      Decides-or (has_module system t) (some_has_module system ts) (has_modules system t) (some_modules system ts)

pub module_held : (system : Option ℕ) (t : Ty) → Decides (holds_module system t) (HoldsModule system t)
module_held system (ArrayOf t) = has_modules system t
module_held system (ListOf t) = has_modules system t
module_held system (ChanOf t) = has_modules system t
module_held system (Tuple ts) = some_modules system ts
module_held system _ = never (λ h. h)

mutual
  pub fd_held : (fd : Option ℕ) (t : Ty) → Decides (holds_fd fd t) (HoldsFd fd t)
  fd_held fd (ArrayOf t) = fd_held fd t
  fd_held fd (ListOf t) = fd_held fd t
  fd_held fd (ChanOf t) = fd_held fd t
  fd_held fd (Tuple ts) = some_fd_held fd ts
  fd_held fd (Adt n) = number fd n
  fd_held fd _ = never (λ h. h)

  some_fd_held : (fd : Option ℕ) (ts : Tys) → Decides (some_holds_fd fd ts) (SomeHoldsFd fd ts)
  some_fd_held fd NoTys = never (λ h. h)
  some_fd_held fd (MoreTys t ts) = Decides-or (holds_fd fd t) (some_holds_fd fd ts) (fd_held fd t) (some_fd_held fd ts)

variant : (defs : List Def) (n v : ℕ) (o : Option Def) → slice_get defs n ≡ o → Decides (has_variant o v) (HasVariant defs n v)
variant defs n v (Some d) e = (
  λ h. record { def = d; there = e; variant = (Decides-ltb v (length d.picks)).0 h },
  λ h. (Decides-ltb v (length d.picks)).1 (there_is h.def h.variant (sym h.there ∙ e)),
)
  where
    there_is : (g : Def) → v < length g.picks → Some g ≡ Some d → v < length d.picks
    there_is g l f = let q : g ≡ d = cc in subst (λ (x : Def). v < length x.picks) q l
variant defs n v None e = never (λ h. let f : Some h.def ≡ None = sym h.there ∙ e in cc)

mutual
  pub all_are_named : (defs : List Def) (modules : ℕ) (t : Ty) → Decides (is_named defs modules t) (Names defs modules t)
  all_are_named defs modules (ArrayOf t) = all_are_named defs modules t
  all_are_named defs modules (ListOf t) = all_are_named defs modules t
  all_are_named defs modules (ChanOf t) = all_are_named defs modules t
  all_are_named defs modules (Tuple ts) = each_is_named defs modules ts
  all_are_named defs modules (Adt n) = Decides-ltb n (length defs)
  all_are_named defs modules (RefAdt n) = Decides-ltb n (length defs)
  all_are_named defs modules (RefPick n v) = variant defs n v (slice_get defs n) refl
  all_are_named defs modules (Module n) = Decides-ltb n modules
  all_are_named defs modules _ = always tt

  each_is_named : (defs : List Def) (modules : ℕ) (ts : Tys) → Decides (all_named defs modules ts) (AllName defs modules ts)
  each_is_named defs modules NoTys = always tt
  each_is_named defs modules (MoreTys t ts) =
      Decides-and (is_named defs modules t) (all_named defs modules ts) (all_are_named defs modules t) (each_is_named defs modules ts)

-- a test that answers so
pub told : {r s : Bool} {P : Type 0} → r ≡ s → Decides s P → IsTrue r ↔ P
told e d = (λ h. d.0 (sym e ∙ h), λ p. e ∙ d.1 p)

pub refused_not_allowed : RefusedOrAllowed
refused_not_allowed defs modules system fd t NotPlace h a = a.no_fd h
refused_not_allowed defs modules system fd t ModuleValue h a = a.no_module h
refused_not_allowed defs modules system fd t TypeTooLarge h a = h (a.names, a.fits)
refused_not_allowed defs modules system fd t _ h a = h

-- what has such a layout fits
pub fits_where : (defs : List Def) (t : Ty) (size : ℕ) (words : List Bool) → IsLayout defs t size words → size ≤ limit → Fits defs t
fits_where defs t size words h l = (h.0, h.1, subst (λ (n : ℕ). n ≤ limit) h.2 l)

pub not_from : {r s : Bool} {P : Type 0} → r ≡ s → r ≡ false → Decides s P → P → ⊥
not_from e f d p = let q : false ≡ true = sym f ∙ e ∙ d.1 p in cc
