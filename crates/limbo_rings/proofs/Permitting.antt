-- What the checker allows to be stored is allowed.
use Rattle.std.proofs.Common.{◌≡◌, ℕ, List, Some, refl, sym, ap, subst, ◌∙◌}
use Rattle.limbo_types.specs.Types as ty
use Rattle.limbo_types.specs.Types.{Ty}
use Rattle.limbo_adts.specs.Reaches.{plain}
use Rattle.limbo_typed.specs.Fitting.{IsRefOf}
use Rattle.limbo_typed.specs.Typed as typed
use Rattle.limbo_layout.specs.Adts.{Def}
use Rattle.limbo_typed.specs.Typed.{Module, Var, At, Local, Global, Field, Element, Character, Target}
use Rattle.limbo_typed.specs.Sound.{SoundPlace, type_of}
use Rattle.limbo_stores.specs.Stores as stores
use Rattle.limbo_stores.specs.Stores.{CanClose, Closes, CopyCloses, by_place, by_copy}
use Rattle.limbo_kept.specs.Permitting.{NeverBack}
use Rattle.limbo_kept.specs.Storing.{CopiesWell}
use Rattle.limbo_stores.proofs.Reaching.{reaches_alike}
use Rattle.limbo_meaning.specs.Values.{Value}
use Rattle.limbo_meaning.specs.Places.{Root}
use Rattle.limbo_meaning.specs.Program.{way_of}
use Rattle.limbo_kept.specs.Permitting.{holder}
use Rattle.limbo_rings.specs.Storing.{IsAllowed}
use Rattle.limbo_rings.specs.Permitting.{root_type, place_of, AllowedIsAllowed, WhatDoesNotCloseIsAllowed}

-- The type by which the object is held, but for variants.
abbrev HeldAs : typed.Place → Ty → Type 0
HeldAs p object = (held : Ty) × (stores.holder p ≡ Some held) × (plain object ≡ plain held)

abbrev root_at : typed.Place → Root
root_at (At t n) = (way_of n).root

ref_plain : (r : Ty) (n : ℕ) → IsRefOf n r → plain (ty.RefAdt n) ≡ plain r
ref_plain (ty.RefAdt m) n e = ap ty.RefAdt (sym e)
ref_plain (ty.RefPick m v) n e = ap ty.RefAdt (sym e)
ref_plain _ n e = absurd e

module _ (m : Module) (variables : List Var) where
  held_as : (p : typed.Place) → SoundPlace m variables p → (object : Ty) → holder (root_at p) (root_type p) ≡ Some object → HeldAs p object
  held_as (At t (Local x)) s object e = absurd cc
  held_as (At t (Global x)) s object e = absurd cc
  held_as (At t (Field (At u q) n)) s object e = held_as (At u q) s.1.0 object e
  held_as (At t (Character (At u q) i)) s object e = held_as (At u q) s.1.0 object e
  held_as (At t (Element a i)) s object e = (
    type_of a,
    refl,
    let f : Some (ty.ArrayOf t) ≡ Some object = e in let g : type_of a ≡ ty.ArrayOf t = s.1.2 in
        let h : object ≡ type_of a = cc in ap plain h,
  )
  held_as (At (ty.Adt n) (Target r)) s object e =
      let g : ty.RefAdt n ≡ object = let f : Some (ty.RefAdt n) ≡ Some object = e in cc in
      (type_of r, refl, sym (ap plain g) ∙ ref_plain (type_of r) n s.1.1)
  held_as (At _ (Target r)) s object e = absurd s.1.1

allowed_at : (m : Module) (variables : List Var) (t : Ty) (n : typed.PlaceNode) → SoundPlace m variables (At t n)
    → (CanClose m.adts (At t n) → ⊥) → (vs : List Value) → IsAllowed m.adts (root_type (At t n)) (place_of (At t n) vs)
allowed_at m variables t n sound never vs object e r =
    let h = held_as m variables (At t n) sound object e in
    never (record { object = h.0; held = h.1; reaches = reaches_alike m.adts t object h.0 r h.2 })

pub allowed_is_allowed : AllowedIsAllowed
allowed_is_allowed m variables (At t n) sound never vs = allowed_at m variables t n sound never vs

copies_well : (defs : List Def) (n : typed.Node) → (Closes defs n → ⊥) → CopiesWell NeverBack defs n
copies_well defs (typed.Copy array from value) never =
    λ t e r. never (by_copy array from value (subst (CopyCloses defs) (sym e) r))
copies_well defs _ never = tt

pub what_does_not_close_is_allowed : WhatDoesNotCloseIsAllowed
what_does_not_close_is_allowed defs n never = record {
  places = λ p into object held r. never (by_place n p into (record { object = object; held = held; reaches = r }));
  copies = copies_well defs n never;
}
