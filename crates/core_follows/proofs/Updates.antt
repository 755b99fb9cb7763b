-- What is updated is a number or a string: no tuple and no adt's value is a part of itself.
use Rattle.std.proofs.Common.{◌≡◌, ℕ, zero, suc, ◌+◌, false, List, [], ◌∷◌, ◌++◌, Option, Some, None, refl, sym, ap, subst, ◌∙◌, arith}
use Rattle.std.proofs.Common.{inl, inr, ◌⊎◌}
use Rattle.std.specs.Prelude.{slice_get}
use Rattle.limbo_types.specs.Types as ty
use Rattle.limbo_types.specs.Types.{Ty, Tys}
use Rattle.limbo_layout.specs.Adts.{Def, Variant, Has, listed, parts, tag, types_of, variant_types, field_types}
use Rattle.limbo_layout.specs.Layout.{Room, Laid, is_alone, of_tuple, of_adt, AllLaid, none_laid, more_laid, alone}
use Rattle.limbo_typed.specs.declared.operation.Operation.{Operation}
use Rattle.limbo_typed.specs.declared.operation.Operation.TheVariants as operation
use Rattle.limbo_typed.specs.Fitting.{IsVariantOf, AllStand, TakesFields, Gives}
use Rattle.limbo_meaning.specs.Evaluation.{passes_on}
use Rattle.core_follows.specs.Modules.{AdtsAreLaid}

-- ---- tuples

-- how many tuples lie in a type, itself among them
abbrev mutual
  depth : Ty → ℕ
  depth (ty.Tuple ts) = suc (depths ts)
  depth _ = 0

  depths : Tys → ℕ
  depths ty.NoTys = 0
  depths (ty.MoreTys t ts) = depth t + depths ts

first_of_itself : (a : Ty) (rest : Tys) → ty.Tuple (ty.MoreTys a rest) ≡ a → ⊥
first_of_itself a rest e = let f : suc (depth a + depths rest) ≡ depth a = ap depth e in omega arith

tuple_in_itself : (t : Ty) (ts : List Ty) (us : Tys) → t ≡ ty.Tuple us → AllStand (t ∷ ts) (listed us) → ⊥
tuple_in_itself t ts ty.NoTys e h = h
tuple_in_itself t ts (ty.MoreTys a rest) e h = elim h.0 [
  | inl f ↦ first_of_itself a rest (sym e ∙ f)
  | inr f ↦ subst (λ (x : Ty). IsVariantOf x a) e f
]

-- ---- adts

has_left : {A : Type 0} (xs ys : List A) (x : A) → Has xs x → Has (xs ++ ys) x
has_left [] ys x h = absurd h
has_left (y ∷ xs) ys x (inl e) = inl e
has_left (y ∷ xs) ys x (inr h) = inr (has_left xs ys x h)

has_right : {A : Type 0} (xs ys : List A) (x : A) → Has ys x → Has (xs ++ ys) x
has_right [] ys x h = h
has_right (y ∷ xs) ys x h = inr (has_right xs ys x h)

has_either : {A : Type 0} (xs ys : List A) (x : A) → Has (xs ++ ys) x → Has xs x ⊎ Has ys x
has_either [] ys x h = inr h
has_either (y ∷ xs) ys x (inl e) = inl (inl e)
has_either (y ∷ xs) ys x (inr h) = elim (has_either xs ys x h) [ inl l ↦ inl (inr l) | inr r ↦ inr r ]

of_variant : (ws : List Variant) (v : ℕ) (w : Variant) (t : Ty) → slice_get ws v ≡ Some w → Has (types_of w.fields) t
    → Has (variant_types ws) t
of_variant [] v w t e h = absurd cc
of_variant (x ∷ ws) zero w t e h =
    let same : x ≡ w = cc in
    has_left (types_of x.fields) (variant_types ws) t (subst (λ (y : Variant). Has (types_of y.fields) t) (sym same) h)
of_variant (x ∷ ws) (suc v) w t e h = has_right (types_of x.fields) (variant_types ws) t (of_variant ws v w t e h)

-- the first of types that stand for others, an adt, is the first of those
first_there : (t : Ty) (ts us : List Ty) (n : ℕ) → t ≡ ty.Adt n → AllStand (t ∷ ts) us → Has us (ty.Adt n)
first_there t ts [] n e h = h
first_there t ts (u ∷ us) n e h = elim h.0 [
  | inl f ↦ inl (sym f ∙ e)
  | inr f ↦ absurd (subst (λ (x : Ty). IsVariantOf x u) e f)
]

field_there : (d : Def) (v : Option ℕ) (t : Ty) (ts : List Ty) (n : ℕ) → t ≡ ty.Adt n → TakesFields d v (t ∷ ts)
    → Has (field_types d) (ty.Adt n)
field_there d None t ts n e h =
    has_left (types_of d.fields) (variant_types d.picks) (ty.Adt n) (first_there t ts (types_of d.fields) n e h.1)
field_there d (Some v) t ts n e h = elim (has_either (types_of d.fields) (types_of h.0.fields) (ty.Adt n)
    (first_there t ts (types_of d.fields ++ types_of h.0.fields) n e h.2)) [
      | inl f ↦ has_left (types_of d.fields) (variant_types d.picks) (ty.Adt n) f
      | inr f ↦ has_right (types_of d.fields) (variant_types d.picks) (ty.Adt n) (of_variant d.picks v h.0 (ty.Adt n) h.1 f)
    ]

module _ (defs : List Def) (n : ℕ) (d : Def) (there : slice_get defs n ≡ Some d) (self : Has (parts d) (ty.Adt n)) where
  mutual
    -- an adt that is a part of itself has no layout
    no_layout : (t : Ty) (r : Room) → Laid defs t r → t ≡ ty.Adt n → ⊥
    no_layout t r (is_alone u q e) same = absurd (let f : alone (ty.Adt n) ≡ Some q = subst (λ (x : Ty). alone x ≡ Some q) same e in cc)
    no_layout t r (of_tuple ts rs l) same = absurd cc
    no_layout t r (of_adt k x rs at l) same =
        let number : k ≡ n = cc in
        let def : d ≡ x = let f : slice_get defs n ≡ Some x = subst (λ (i : ℕ). slice_get defs i ≡ Some x) number at in cc in
        none_among (parts x) rs l (subst (λ (y : Def). Has (parts y) (ty.Adt n)) def self)

    none_among : (ts : List Ty) (rs : List Room) → AllLaid defs ts rs → Has ts (ty.Adt n) → ⊥
    none_among ts rs none_laid h = h
    none_among all rs (more_laid t us r qs l ls) (inl e) = no_layout t r l e
    none_among all rs (more_laid t us r qs l ls) (inr h) = none_among us qs ls h

-- ---- what is updated

pub not_passed : (defs : List Def) → AdtsAreLaid defs → (o : Operation) (t : Ty) (ts : List Ty) → Gives defs o (t ∷ ts) t
    → passes_on o ≡ false
not_passed defs laid operation.Tuple t ts g = absurd (tuple_in_itself t ts g.0 g.1 g.2)
not_passed defs laid (operation.Adt n v) t ts g =
    let l = laid n g.def g.there in
    absurd (no_layout defs n g.def g.there
    (has_right (tag g.def.picks) (field_types g.def) (ty.Adt n) (field_there g.def v t ts n g.result g.fields)) (ty.Adt n) l.0 l.1 refl)
not_passed defs laid _ t ts g = refl
