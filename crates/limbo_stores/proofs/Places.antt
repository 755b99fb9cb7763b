-- What holds of places, and of what may be stored there.
use Rattle.std.proofs.Common.{◌≡◌, ◌↔◌, IsTrue, Bool, ℕ, zero, suc, ◌⊎◌, inl, inr, List, [], ◌∷◌, ◌++◌, Some, refl, sym, ap, ◌∙◌, subst}
use Rattle.std.specs.Prelude.{slice_get}
use Rattle.limbo_types.specs.Types as ty
use Rattle.limbo_types.specs.Types.{Ty, Tys}
use Rattle.limbo_layout.specs.Adts.{Def, Variant, Has, listed, parts, tag, field_types}
use Rattle.limbo_adts.specs.Reaches.{plain, HasField, Part, of_array, of_list, of_chan, of_tuple, of_adt, of_ref, of_variant}
use Rattle.limbo_adts.specs.Reaches.{Reaches, reaches_itself, reaches_through}
use Rattle.limbo_typed.specs.Typed.{Place, At, PlaceNode, Local, Global, Field, Element, Character, Target, Module, Var}
use Rattle.limbo_typed.specs.Fitting.{HasNil, IsRefOf, HasPart}
use Rattle.limbo_typed.specs.Sound.{type_of, type_at, SoundPlace, SoundPlaceNode, IsTarget}
use Rattle.limbo_stores.specs.Stores.{holder, holder_of, CanClose, by_copy, by_send, CopyCloses, SendCloses}
use Rattle.limbo_stores.specs.Heaps.{MayName}
use Rattle.limbo_stores.specs.Laws.{StoresNeverClose, CopiesNeverClose, SendsNeverClose, PlacesLieInHolders, PartsLieIn}
use Rattle.limbo_stores.proofs.Reaching.{reaches_alike}

pub stores_never_close : StoresNeverClose
stores_never_close defs p object h never u r e =
    never (record { object = object; held = h; reaches = reaches_alike defs (type_at p) u object r e })

pub copies_never_close : CopiesNeverClose
copies_never_close defs array from value t e never u r f =
    never (by_copy array from value (subst (λ (z : Ty). CopyCloses defs z) (sym e) (reaches_alike defs t u (ty.ArrayOf t) r f)))

pub sends_never_close : SendsNeverClose
sends_never_close defs channel value t e never u r f =
    never (by_send channel value (subst (λ (z : Ty). SendCloses defs z) (sym e) (reaches_alike defs t u (ty.ChanOf t) r f)))

-- ---- what the object that holds a place may name

got_has : (ts : List Ty) (n : ℕ) (t : Ty) → slice_get ts n ≡ Some t → Has ts t
got_has [] n t e = absurd cc
got_has (u ∷ us) zero t e = inl cc
got_has (u ∷ us) (suc n) t e = inr (got_has us n t e)

within : (defs : List Def) (whole : Ty) (k : ℕ) (t : Ty) → HasPart defs whole k t → Part defs whole t ⊎ (t ≡ ty.Int)
within defs (ty.Tuple ts) k t h = inl (of_tuple ts t (got_has (listed ts) k t h))
within defs (ty.Adt a) k t h = elim (in_parts h.0.picks (field_types h.0) t (got_has (parts h.0) k t h.2)) [
  | inl e ↦ inr e
  | inr f ↦ inl (of_adt a t (record { def = h.0; there = h.1; has = f }))
]
  where
    in_parts : (picks : List Variant) (fields : List Ty) (t : Ty) → Has (tag picks ++ fields) t → (t ≡ ty.Int) ⊎ Has fields t
    in_parts [] fields t h = inr h
    in_parts (v ∷ vs) fields t (inl e) = inl (sym e)
    in_parts (v ∷ vs) fields t (inr h) = inr h
within defs _ k t h = absurd h

no_parts : (defs : List Def) (t p : Ty) → Part defs t p → t ≡ ty.Int → ⊥
no_parts defs _ _ (of_array t) e = cc
no_parts defs _ _ (of_list t) e = cc
no_parts defs _ _ (of_chan t) e = cc
no_parts defs _ _ (of_tuple ts t h) e = cc
no_parts defs _ _ (of_adt n t f) e = cc
no_parts defs _ _ (of_ref n t f) e = cc
no_parts defs _ _ (of_variant n v t f) e = cc

-- no reference or string is an int, nor an adt's value
int_only : (u : Ty) → HasNil u → plain u ≡ ty.Int → ⊥
int_only ty.Chars i e = cc
int_only (ty.ArrayOf t) i e = cc
int_only (ty.ListOf t) i e = cc
int_only (ty.ChanOf t) i e = cc
int_only (ty.RefAdt n) i e = cc
int_only (ty.RefPick n v) i e = cc
int_only (ty.Module n) i e = cc
int_only _ i e = i

adt_only : (n : ℕ) (u : Ty) → HasNil u → plain u ≡ ty.Adt n → ⊥
adt_only n ty.Chars i e = cc
adt_only n (ty.ArrayOf t) i e = cc
adt_only n (ty.ListOf t) i e = cc
adt_only n (ty.ChanOf t) i e = cc
adt_only n (ty.RefAdt m) i e = cc
adt_only n (ty.RefPick m v) i e = cc
adt_only n (ty.Module m) i e = cc
adt_only n _ i e = i

int_reaches_none : (defs : List Def) (t u : Ty) → Reaches defs t u → t ≡ ty.Int → HasNil u → ⊥
int_reaches_none defs _ _ (reaches_itself t u e) f i = int_only u i (sym e ∙ ap plain f)
int_reaches_none defs _ _ (reaches_through t p u a r) f i = no_parts defs t p a f

-- what is in an adt's fields, what its `ref` names may name
adt_part : (defs : List Def) (n : ℕ) (t p : Ty) → Part defs t p → t ≡ ty.Adt n → HasField defs n p
adt_part defs n _ _ (of_adt m p f) e = let g : m ≡ n = cc in subst (λ (z : ℕ). HasField defs z p) g f
adt_part defs n _ _ (of_array t) e = absurd cc
adt_part defs n _ _ (of_list t) e = absurd cc
adt_part defs n _ _ (of_chan t) e = absurd cc
adt_part defs n _ _ (of_tuple ts t h) e = absurd cc
adt_part defs n _ _ (of_ref m t f) e = absurd cc
adt_part defs n _ _ (of_variant m v t f) e = absurd cc

ref_part : (defs : List Def) (n : ℕ) (object p : Ty) → IsRefOf n object → HasField defs n p → Part defs object p
ref_part defs n (ty.RefAdt m) p i f = of_ref m p (subst (λ (z : ℕ). HasField defs z p) (sym i) f)
ref_part defs n (ty.RefPick m v) p i f = of_variant m v p (subst (λ (z : ℕ). HasField defs z p) (sym i) f)
ref_part defs n _ p i f = absurd i

target_names : (defs : List Def) (n : ℕ) (object t to : Ty) → IsRefOf n object → Reaches defs t to → t ≡ ty.Adt n → HasNil to
    → MayName defs object to
target_names defs n object _ _ i (reaches_itself t to e) f k = absurd (adt_only n to k (sym e ∙ ap plain f))
target_names defs n object _ _ i (reaches_through t p to a r) f k =
    record { part = p; is_part = ref_part defs n object p i (adt_part defs n t p a f); reaches = r }

held_target : (defs : List Def) (t object to : Ty) → IsTarget object t → Reaches defs t to → HasNil to → MayName defs object to
held_target defs (ty.Adt n) object to s r i = target_names defs n object (ty.Adt n) to s r refl i
held_target defs _ object to s r i = absurd s

module _ (m : Module) (variables : List Var) where
  mutual
    held_place : (p : Place) (object to : Ty) → SoundPlace m variables p → holder p ≡ Some object → Reaches m.adts (type_at p) to
        → HasNil to → MayName m.adts object to
    held_place (At t n) object to s e r i = held_at t n object to s.1 e r i

    held_at : (t : Ty) (n : PlaceNode) (object to : Ty) → SoundPlaceNode m variables t n → holder_of n ≡ Some object → Reaches m.adts t to
        → HasNil to → MayName m.adts object to
    held_at t (Local x) object to s e r i = absurd cc
    held_at t (Global x) object to s e r i = absurd cc
    held_at t (Field q k) object to s e r i = elim (within m.adts (type_at q) k t s.1) [
      | inl a ↦ held_place q object to s.0 e (reaches_through (type_at q) t to a r) i
      | inr f ↦ absurd (int_reaches_none m.adts t to r f i)
    ]
    held_at t (Element a j) object to s e r i =
        let f : ty.ArrayOf t ≡ object = let g : type_of a ≡ object = cc in sym s.2 ∙ g in
        subst (λ (z : Ty). MayName m.adts z to) f (record { part = t; is_part = of_array t; reaches = r })
    held_at t (Character q j) object to s e r i = absurd (int_reaches_none m.adts t to r s.3 i)
    held_at t (Target x) object to s e r i =
        let f : type_of x ≡ object = cc in
        subst (λ (z : Ty). MayName m.adts z to) f (held_target m.adts t (type_of x) to s.1 r i)

pub places_lie_in_holders : PlacesLieInHolders
places_lie_in_holders m variables p object s e to i r = held_place m variables p object to s e r i

pub parts_lie_in : PartsLieIn
parts_lie_in defs object part a to i r = record { part = part; is_part = a; reaches = r }

-- ---- what the code asks

pub place_closes :
    (defs : List Def) (p : Place) (t object : Ty) (b : Bool) → type_at p ≡ t → Some object ≡ holder p → IsTrue b ↔ Reaches defs t object
    → IsTrue b ↔ CanClose defs p
place_closes defs p t object b f e h = (
  λ k. record { object = object; held = sym e; reaches = subst (λ (z : Ty). Reaches defs z object) (sym f) (h.0 k) },
  λ c. h.1 (subst (λ (z : Ty). Reaches defs z object) f
      (subst (λ (z : Ty). Reaches defs (type_at p) z) (same c.object c.held) c.reaches)),
)
  where
    same : (held : Ty) → holder p ≡ Some held → held ≡ object
    same held k = let g : Some held ≡ Some object = sym k ∙ sym e in cc

pub copy_told : (defs : List Def) (a t : Ty) (b : Bool) → a ≡ ty.ArrayOf t → IsTrue b ↔ Reaches defs t a → IsTrue b ↔ CopyCloses defs a
copy_told defs a t b e h =
    subst (λ (z : Ty). IsTrue b ↔ CopyCloses defs z) (sym e) (subst (λ (z : Ty). IsTrue b ↔ Reaches defs t z) e h)

pub send_told : (defs : List Def) (c t : Ty) (b : Bool) → c ≡ ty.ChanOf t → IsTrue b ↔ Reaches defs t c → IsTrue b ↔ SendCloses defs c
send_told defs c t b e h =
    subst (λ (z : Ty). IsTrue b ↔ SendCloses defs z) (sym e) (subst (λ (z : Ty). IsTrue b ↔ Reaches defs t z) e h)
