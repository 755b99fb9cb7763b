-- Parts of values, and members and variants of adts, are what the definitions say.
use Rattle.std.proofs.Common.{◌≡◌, ◌<◌, ◌&&◌, ℕ, Bool, true, false, List, Option, Some, None, refl, sym, ap, ◌∙◌, subst, arith}
use Rattle.std.proofs.lemmas.Option.{none-some, same_Some}
use Rattle.limbo_types.specs.Types.{Ty, Adt}
use Rattle.limbo_types.specs.View.{view_ty}
use Rattle.limbo_layout.specs.Adts.{Def, Variant}
use Rattle.limbo_layout.specs.declared.def.AdtDef as code_def
use Rattle.limbo_layout.specs.View.{view_defs}
use Rattle.limbo_typed.specs.declared.expr.TExpr as code_expr
use Rattle.limbo_typed.specs.Typed.{Expr, Absent, Present}
use Rattle.limbo_typed.specs.Sound.{type_of, IsSettled}
use Rattle.limbo_typed.specs.View.{view_expr}
use Rattle.limbo_forms.specs.Forms.{is_settled}
use Rattle.limbo_forms.proofs.Tests.{both_true, settled_is, settled_true}
use Rattle.limbo_fields.specs.Fields.{Names}
use Rattle.limbo_fields.proofs.Named.{one}
use Rattle.limbo_refusals.specs.Refusals.{NoneIs}
use Rattle.limbo_scope.specs.declared.meaning.Meaning.{Meaning}
use Rattle.limbo_context.specs.Context.{Context, named_in, IsFirstNamed, HasVariantNamed}
use Rattle.limbo_places.specs.Targets.{Selects}
use Rattle.limbo_places.specs.Targets as rule
use Rattle.limbo_places.proofs.Targets.{selects_once, parts_settled, ref_settled}
use Rattle.limbo_things.specs.Things.{Thing, AValue, AType, AVariant, adt_member, member_at, adt_of, PartOfValue, PartOfAdt, PartIs}
use Rattle.limbo_things.specs.Things as things
use Rattle.limbo_things.specs.Choosing.{own_adt, adt_member_of_value, HasPart, Tells, IsVariant}
use Rattle.limbo_things.proofs.Forms.{type_is}
use Rattle.limbo_things.proofs.Found.{bind_some, bind_none, bind_is}

-- ---- of values

pub tells_part : (defs : List Def) (name : List ℕ) (of : Ty) (k : ℕ) (t : Ty) (b : Bool) → b ≡ is_settled of && is_settled t
    → Names defs name of k t → Tells b (HasPart defs name of)
tells_part defs name of k t true e n = let p = both_true (is_settled of) (is_settled t) (sym e) in (k, t, n, settled_is t p.1, settled_is of p.0)
tells_part defs name of k t false e n = λ h.
    let p = one defs name of k h.0 t h.1 n h.2 in
    let q : is_settled t ≡ true = settled_true t (subst (λ (z : Ty). IsSettled z) (sym p.1) h.3) in
    let f : false ≡ true = e ∙ rw (settled_true of h.4, q) refl in
    absurd cc

no_selects : (defs : List Def) (name : List ℕ) (e x : Expr) → (HasPart defs name (type_of e) → ⊥) → Selects defs name e x → ⊥
no_selects defs name _ _ none (rule.Selects.in_place of p k t h n s) = none (k, t, n, s, parts_settled of h)
no_selects defs name _ _ none (rule.Selects.in_value of i k t h j n s) = none (k, t, n, s, parts_settled of h)
no_selects defs name _ _ none (rule.in_target a r k t h n s) = none (k, t, n, s, ref_settled a (type_of r) h)

untold : (b : Bool) (P : Type 0) → Tells b P → b ≡ false → P → ⊥
untold b P h e = let Q : Bool → Type 0 = λ z. Tells z P in subst Q e h

pub none_selected : (b : Bool) (defs all : List code_def.AdtDef) (name : List ℕ) (e : code_expr.TExpr)
    → Tells b (HasPart (view_defs defs) name (view_ty e.ty)) → b ≡ false → defs ≡ all → NoneIs (Selects (view_defs all) name (view_expr e))
none_selected b defs all name e h f i x s =
    let none : HasPart (view_defs defs) name (view_ty e.ty) → ⊥ = untold b (HasPart (view_defs defs) name (view_ty e.ty)) h f in
    let at : HasPart (view_defs all) name (type_of (view_expr e)) → ⊥ = λ p.
    none (subst (λ (z : List code_def.AdtDef). HasPart (view_defs z) name (view_ty e.ty)) (sym i)
    (subst (λ (z : Ty). HasPart (view_defs all) name z) (type_is e) p)) in
    no_selects (view_defs all) name (view_expr e) x at s

module _ (c : Context) (name : List ℕ) where
  pub value_member : (e : Expr) (t : Thing) → NoneIs (Selects c.adts name e) → adt_member_of_value c name e ≡ Some t
      → PartOfValue c name e t
  value_member e t none h = go (adt_of (type_of e)) refl
    where
      go : (o : Option ℕ) → adt_of (type_of e) ≡ o → PartOfValue c name e t
      go None q = absurd (bind_none (adt_of (type_of e)) (λ a. member_at c a (Present e) name) t q h)
      go (Some a) q = things.a_member a none q (bind_is (adt_of (type_of e)) (λ a. member_at c a (Present e) name) a t q h)

  pub value_none : (e : Expr) → NoneIs (Selects c.adts name e) → adt_member_of_value c name e ≡ None → NoneIs (PartOfValue c name e)
  value_none e none h t (things.a_part x s i) = none x s
  value_none e none h t (things.a_member a n q p) =
      none-some t (sym h ∙ bind_some (adt_of (type_of e)) (λ a. member_at c a (Present e) name) a q ∙ p)

  -- ---- of adts

  pub adt_found : (a : ℕ) (m : Meaning) (t : Thing) → named_in c.members a name ≡ Some m → adt_member c Absent m ≡ Some t
      → PartOfAdt c name a t
  adt_found a m t e h = things.adt_has (bind_some (named_in c.members a name) (adt_member c Absent) m e ∙ h)

  pub adt_lacks : (a : ℕ) (m : Meaning) → named_in c.members a name ≡ Some m → adt_member c Absent m ≡ None → NoneIs (PartOfAdt c name a)
  adt_lacks a m e h t (things.adt_has p) =
      none-some t (sym h ∙ bind_is (named_in c.members a name) (adt_member c Absent) m t e p)
  adt_lacks a m e h t (things.a_variant v n k i) = none-some m (sym n ∙ e)

  pub variant_found : (a : ℕ) (t : Thing) → named_in c.members a name ≡ None → IsVariant c a name t → PartOfAdt c name a t
  variant_found a t e h = things.a_variant h.0 e h.1 h.2

  pub variant_lacks : (a : ℕ) → named_in c.members a name ≡ None → NoneIs (IsVariant c a name) → NoneIs (PartOfAdt c name a)
  variant_lacks a e none t (things.adt_has p) = bind_none (named_in c.members a name) (adt_member c Absent) t e p
  variant_lacks a e none t (things.a_variant v n k i) = none t (v, k, i)

  pub own_is : (t : Ty) (a : ℕ) → own_adt t ≡ Some a → t ≡ Adt a
  own_is (Adt b) a e = ap Adt (same_Some b a e)
  own_is _ a e = absurd (none-some a e)

  pub type_lacks : (t : Ty) (a : ℕ) → own_adt t ≡ Some a → NoneIs (PartOfAdt c name a) → NoneIs (PartIs c name (AType t))
  type_lacks t a e none =
      let P : Ty → Type 0 = λ z. NoneIs (PartIs c name (AType z)) in subst P (sym (own_is t a e)) none

  pub type_has : (t : Ty) (a : ℕ) (x : Thing) → own_adt t ≡ Some a → PartOfAdt c name a x → PartIs c name (AType t) x
  type_has t a x e h = let P : Ty → Type 0 = λ z. PartIs c name (AType z) x in subst P (sym (own_is t a e)) h

  -- ---- each is one

  one_first : (picks : List Variant) (v w : ℕ) → IsFirstNamed picks name v → IsFirstNamed picks name w → v ≡ w
  one_first picks v w h k =
      let no : v < w → ⊥ = λ l. k.first v h.variant l h.there h.named in
      let nor : w < v → ⊥ = λ l. h.first w k.variant l k.there k.named in
      omega arith

  one_variant : (a v w : ℕ) → HasVariantNamed c a name v → HasVariantNamed c a name w → v ≡ w
  one_variant a v w h k =
      let same : k.def ≡ h.def = same_Some k.def h.def (sym k.there ∙ h.there) in
      one_first h.def.picks v w h.named (subst (λ (z : Def). IsFirstNamed z.picks name w) same k.named)

  one_of_value : (e : Expr) (s t : Thing) → PartOfValue c name e s → PartOfValue c name e t → s ≡ t
  one_of_value e s t (things.a_part x p i) (things.a_part y q j) = i ∙ ap AValue (selects_once c.adts name e x y p q) ∙ sym j
  one_of_value e s t (things.a_part x p i) (things.a_member b n q r) = absurd (n x p)
  one_of_value e s t (things.a_member a n q r) (things.a_part y p i) = absurd (n y p)
  one_of_value e s t (things.a_member a n q r) (things.a_member b m u w) =
      let same : a ≡ b = same_Some a b (sym q ∙ u) in
      same_Some s t (sym r ∙ ap (λ (z : ℕ). member_at c z (Present e) name) same ∙ w)

  one_of_adt : (a : ℕ) (s t : Thing) → PartOfAdt c name a s → PartOfAdt c name a t → s ≡ t
  one_of_adt a s t (things.adt_has p) (things.adt_has q) = same_Some s t (sym p ∙ q)
  one_of_adt a s t (things.adt_has p) (things.a_variant v n h e) =
      absurd (bind_none (named_in c.members a name) (adt_member c Absent) s n p)
  one_of_adt a s t (things.a_variant v n h e) (things.adt_has p) =
      absurd (bind_none (named_in c.members a name) (adt_member c Absent) t n p)
  one_of_adt a s t (things.a_variant v n h e) (things.a_variant w m k f) =
      e ∙ ap (λ (z : ℕ). AVariant a z) (one_variant a v w h k) ∙ sym f

  pub one_part : (base s t : Thing) → PartIs c name base s → PartIs c name base t → s ≡ t
  one_part (AValue e) s t h k = one_of_value e s t h k
  one_part (AType (Adt a)) s t h k = one_of_adt a s t h k
  one_part (AVariant a v) s t h k = same_Some s t (sym h ∙ k)
  one_part _ s t h k = absurd h
