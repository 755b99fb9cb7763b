-- What references name, and parts of values, are what the definitions say.
use Rattle.std.proofs.Common.{◌≡◌, ℕ, false, List, Option, Some, None, refl, sym, ap, subst, ◌∙◌}
use Rattle.limbo_types.specs.Types.{Ty, Tuple, Adt, RefAdt, RefPick}
use Rattle.limbo_types.specs.View.{view_ty}
use Rattle.limbo_layout.specs.Adts.{Def}
use Rattle.limbo_typed.specs.declared.expr.TExpr as code_expr
use Rattle.limbo_typed.specs.Typed.{Expr, Of, Node, Read, Part, Target}
use Rattle.limbo_typed.specs.Fitting.{IsRefOf}
use Rattle.limbo_typed.specs.Sound.{type_of, IsSettled}
use Rattle.limbo_typed.specs.View.{view_expr}
use Rattle.limbo_forms.specs.Forms.{choose, is_settled, ref_of}
use Rattle.limbo_forms.proofs.Tests.{not_settled}
use Rattle.limbo_fields.specs.Fields.{Names}
use Rattle.limbo_fields.specs.Fields as names
use Rattle.limbo_fields.proofs.Named.{one}
use Rattle.limbo_prefixes.proofs.limbo_operators_lemmas.Table.{ref_is, ref_found}
use Rattle.limbo_refusals.specs.Refusals.{NoneIs}
use Rattle.limbo_places.specs.Places.{read, IsNoPlace}
use Rattle.limbo_places.specs.Targets.{Dereferences, HasParts, Selects}
use Rattle.limbo_places.specs.Targets as rule
use Rattle.limbo_places.specs.Choosing.{part_in, part_of_target, part_at}
use Rattle.limbo_places.proofs.Nodes.{type_is}

-- ---- what references name

target_is : (r e : Expr) → Dereferences r e → (n : ℕ) × (ref_of (type_of r) ≡ Some n) × (e ≡ read (Adt n) (Target r))
target_is _ _ (rule.target n r h) = (n, ref_found (type_of r) n h, refl)

pub target_once : (r e f : Expr) → Dereferences r e → Dereferences r f → e ≡ f
target_once r e f h k =
    let p = target_is r e h in
    let q = target_is r f k in
    let s : Some p.0 ≡ Some q.0 = sym p.1 ∙ q.1 in
    let t : p.0 ≡ q.0 = cc in
    p.2 ∙ ap (λ (z : ℕ). read (Adt z) (Target r)) t ∙ sym q.2

pub target_answered : (r e : code_expr.TExpr) (n : ℕ) → ref_of (view_ty r.ty) ≡ Some n
    → view_expr e ≡ read (Adt n) (Target (view_expr r))
    → Dereferences (view_expr r) (view_expr e)
target_answered r e n h k =
    subst (λ (z : Expr). Dereferences (view_expr r) z) (sym k)
    (rule.target n (view_expr r) (ref_is (type_of (view_expr r)) n (ap ref_of (type_is r) ∙ h)))

pub no_target_answered : (r : code_expr.TExpr) → ref_of (view_ty r.ty) ≡ None → NoneIs (Dereferences (view_expr r))
no_target_answered r h e k =
    let p = target_is (view_expr r) e k in
    let f : None ≡ Some p.0 = sym h ∙ ap ref_of (sym (type_is r)) ∙ p.1 in
    absurd cc

-- ---- parts

parts_no_ref : (t : Ty) → HasParts t → ref_of t ≡ None
parts_no_ref (Tuple ts) h = refl
parts_no_ref (Adt n) h = refl
parts_no_ref _ h = absurd h

no_place : (of : Ty) (n : Node) (k : ℕ) (t : Ty) → IsNoPlace n → part_in (Of of n) k t ≡ Of t (Part (Of of n) k)
no_place of (Read p) k t h = absurd (h p refl)
no_place of _ k t h = refl

pub parts_settled : (t : Ty) → HasParts t → IsSettled t
parts_settled (Tuple ts) h = h
parts_settled (Adt n) h = tt
parts_settled _ h = absurd h

pub ref_settled : (n : ℕ) (t : Ty) → IsRefOf n t → IsSettled t
ref_settled n (RefAdt k) h = tt
ref_settled n (RefPick k v) h = tt
ref_settled n _ h = absurd h

pub open_whole : (of : Ty) → is_settled of ≡ false → (P : Type 0) → IsSettled of → P
open_whole of e P s = absurd (not_settled of e s)

module _ (defs : List Def) (name : List ℕ) where
  named_parts : (of : Ty) (k : ℕ) (t : Ty) → Names defs name of k t → IsSettled of → ref_of of ≡ None → HasParts of
  named_parts _ _ _ (names.of_adt n d k t h p) s e = tt
  named_parts _ _ _ (names.of_ref n d k t h p) s e = absurd cc
  named_parts _ _ _ (names.of_variant n v d k t h p) s e = absurd cc
  named_parts _ _ _ (names.of_tuple ts k t h p) s e = s

  part_given : (of : Ty) (n : Node) (k : ℕ) (t : Ty) → HasParts of → Names defs name of k t → IsSettled t
      → Selects defs name (Of of n) (part_in (Of of n) k t)
  part_given of (Read p) k t h c s = rule.Selects.in_place of p k t h c s
  part_given of n k t h c s = rule.Selects.in_value of n k t h (λ p e. absurd cc) c s

  selects_given : (base : Expr) (k : ℕ) (t : Ty) → Names defs name (type_of base) k t → IsSettled t → IsSettled (type_of base)
      → Selects defs name base (part_at base k t)
  selects_given (Of of n) k t c s w = go (ref_of of) refl
    where
      go : (o : Option ℕ) → ref_of of ≡ o
          → Selects defs name (Of of n) (choose o (part_in (Of of n) k t) (λ adt. part_of_target adt (Of of n) k t))
      go (Some adt) e = rule.in_target adt (Of of n) k t (ref_is of adt e) c s
      go None e = part_given of n k t (named_parts of k t c w e) c s

  selects_is : (base e : Expr) → Selects defs name base e
      → (k : ℕ) × (t : Ty) × Names defs name (type_of base) k t × IsSettled t × (e ≡ part_at base k t) × IsSettled (type_of base)
  selects_is _ _ (rule.Selects.in_place of p k t h c s) = (k, t, c, s, rw (parts_no_ref of h) refl, parts_settled of h)
  selects_is _ _ (rule.Selects.in_value of n k t h i c s) = (k, t, c, s, rw (parts_no_ref of h, no_place of n k t i) refl, parts_settled of h)
  selects_is _ _ (rule.in_target adt r k t h c s) = (k, t, c, s, rw (ref_found (type_of r) adt h) refl, ref_settled adt (type_of r) h)

  pub selects_once : (base e f : Expr) → Selects defs name base e → Selects defs name base f → e ≡ f
  selects_once base e f h k =
      let p = selects_is base e h in
      let q = selects_is base f k in
      let s = one defs name (type_of base) p.0 q.0 p.1 q.1 p.2 q.2 in
      p.4 ∙ ap (λ (z : ℕ). part_at base z p.1) s.0 ∙ ap (λ (z : Ty). part_at base q.0 z) s.1 ∙ sym q.4

  pub select_answered : (base e : code_expr.TExpr) (k : ℕ) (t : Ty) → Names defs name (view_ty base.ty) k t → IsSettled t
      → IsSettled (view_ty base.ty) → view_expr e ≡ part_at (view_expr base) k t → Selects defs name (view_expr base) (view_expr e)
  select_answered base e k t c s w h =
      subst (λ (z : Expr). Selects defs name (view_expr base) z) (sym h)
      (selects_given (view_expr base) k t (subst (λ (z : Ty). Names defs name z k t) (sym (type_is base)) c) s
      (subst (λ (z : Ty). IsSettled z) (sym (type_is base)) w))

  pub no_part_answered : (base : code_expr.TExpr) → ((k : ℕ) (t : Ty) → Names defs name (view_ty base.ty) k t → IsSettled t → IsSettled (view_ty base.ty) → ⊥)
      → NoneIs (Selects defs name (view_expr base))
  no_part_answered base none e h =
      let p = selects_is (view_expr base) e h in
      none p.0 p.1 (subst (λ (z : Ty). Names defs name z p.0 p.1) (type_is base) p.2) p.3 (subst (λ (z : Ty). IsSettled z) (type_is base) p.5)

  -- a part of an open type is none that is chosen
  pub open_part : (of : Ty) (k : ℕ) (u : Ty) → Names defs name of k u → is_settled u ≡ false
      → (l : ℕ) (t : Ty) → Names defs name of l t → IsSettled t → IsSettled of → ⊥
  open_part of k u c e l t d s w =
      let p = one defs name of k l u t c d in not_settled u e (subst (λ (z : Ty). IsSettled z) (sym p.1) s)
