-- What is sliced is what the definition says.
use Rattle.std.proofs.Common.{◌≡◌, Bool, true, false, cond, Some, None, refl, sym, ap, subst, ◌∙◌}
use Rattle.limbo_types.specs.Types.{Ty, Int, Chars, ArrayOf}
use Rattle.limbo_types.specs.View.{view_ty}
use Rattle.limbo_typed.specs.declared.expr.TExpr as code_expr
use Rattle.limbo_typed.specs.declared.operation.Sequence.{Sequence}
use Rattle.limbo_typed.specs.declared.operation.Sequence.TheVariants as sequence
use Rattle.limbo_typed.specs.Typed.{Expr, Optional, Absent, Present}
use Rattle.limbo_typed.specs.Fitting.{IsSliced}
use Rattle.limbo_typed.specs.Sound.{type_of}
use Rattle.limbo_typed.specs.View.{view_expr}
use Rattle.limbo_forms.specs.Forms.{is_int, is_settled}
use Rattle.limbo_forms.proofs.Tests.{int_is, settled_is, settled_true}
use Rattle.limbo_refusals.specs.declared.fault.ExprFault.{ExprFault}
use Rattle.limbo_refusals.specs.Refusals.{Clash, Refuses, NoneIs}
use Rattle.limbo_places.specs.Slices.{slice, IsBound, CanSlice, Slices, Hinders}
use Rattle.limbo_places.specs.Slices as rule
use Rattle.limbo_places.specs.Choosing.{sequence_of, sliced_as, no_int}
use Rattle.limbo_places.proofs.Nodes.{type_is}
use Rattle.limbo_places.proofs.Told.{if_then, refuses_as}

sequence_is : (t : Ty) (s : Sequence) → sequence_of t ≡ Some s → IsSliced s t
sequence_is Chars s e = let f : sequence.Chars ≡ s = cc in subst (λ (z : Sequence). IsSliced z Chars) f tt
sequence_is (ArrayOf t) s e = let f : sequence.Array ≡ s = cc in subst (λ (z : Sequence). IsSliced z (ArrayOf t)) f tt
sequence_is _ s e = absurd cc

sequence_found : (s : Sequence) (t : Ty) → IsSliced s t → sequence_of t ≡ Some s
sequence_found sequence.Chars Chars h = refl
sequence_found sequence.Chars _ h = absurd h
sequence_found sequence.Array (ArrayOf t) h = refl
sequence_found sequence.Array _ h = absurd h
sequence_found sequence.List t h = absurd h

can_slice : (t : Ty) (s : Sequence) → sliced_as t ≡ Some s → CanSlice s t
can_slice t s e =
    let p = if_then (is_settled t) (sequence_of t) s e in record { sliced = sequence_is t s p.1; settled = settled_is t p.0 }

sliced_found : (t : Ty) (s : Sequence) → CanSlice s t → sliced_as t ≡ Some s
sliced_found t s h = rw (settled_true t h.settled) (sequence_found s t h.sliced)

-- ---- bounds

int_bound : (t : Ty) → cond (is_int t) None (Some t) ≡ None → t ≡ Int
int_bound t e = go (is_int t) refl e
  where
    go : (b : Bool) → is_int t ≡ b → cond b None (Some t) ≡ None → t ≡ Int
    go true h e = int_is t h
    go false h e = absurd cc

no_int_bound : (t u : Ty) → cond (is_int t) None (Some t) ≡ Some u → (t ≡ u) × (t ≡ Int → ⊥)
no_int_bound t u e = go (is_int t) refl e
  where
    go : (b : Bool) → is_int t ≡ b → cond b None (Some t) ≡ Some u → (t ≡ u) × (t ≡ Int → ⊥)
    go true h e = absurd cc
    go false h e = (cc, λ f. let g : false ≡ true = sym h ∙ ap is_int f in absurd cc)

bound_is : (o : Optional) → no_int o ≡ None → IsBound o
bound_is Absent e = tt
bound_is (Present x) e = int_bound (type_of x) e

bound_is_not : (o : Optional) (u : Ty) → no_int o ≡ Some u
    → (x : Expr) × (o ≡ Present x) × (type_of x ≡ u) × (type_of x ≡ Int → ⊥)
bound_is_not Absent u e = absurd cc
bound_is_not (Present x) u e = let p = no_int_bound (type_of x) u e in (x, refl, p.0, p.1)

-- ---- slices

slices_is : (base : Expr) (from to : Optional) (e : Expr) → Slices base from to e
    → (s : Sequence) × CanSlice s (type_of base) × IsBound from × IsBound to × (e ≡ slice s base from to)
slices_is _ _ _ _ (rule.slices s base from to c f t) = (s, c, f, t, refl)

pub sliced_once : (base : Expr) (from to : Optional) (e f : Expr) → Slices base from to e → Slices base from to f → e ≡ f
sliced_once base from to e f h k =
    let p = slices_is base from to e h in
    let q = slices_is base from to f k in
    let r : Some p.0 ≡ Some q.0 = sym (sliced_found (type_of base) p.0 p.1) ∙ sliced_found (type_of base) q.0 q.1 in
    let s : p.0 ≡ q.0 = cc in
    p.4 ∙ ap (λ (z : Sequence). slice z base from to) s ∙ sym q.4

no_bound : (o : Optional) (x : Expr) → IsBound o → o ≡ Present x → (type_of x ≡ Int → ⊥) → ⊥
no_bound o x b e n = n (subst (λ (z : Optional). IsBound z) e b)

-- where something keeps it from being a slice it is none
hindered : (base : Expr) (from to : Optional) (t : Ty) → Hinders base from to t → NoneIs (Slices base from to)
hindered base from to _ (rule.of_base none) f h = let p = slices_is base from to f h in none p.0 p.1
hindered base from to _ (rule.of_from s x c e n) f h = let p = slices_is base from to f h in no_bound from x p.2 e n
hindered base from to _ (rule.of_to s x c b e n) f h = let p = slices_is base from to f h in no_bound to x p.3 e n

-- ---- what is answered

module _ (base : code_expr.TExpr) (from to : Optional) where
  pub slice_answered : (e : code_expr.TExpr) (s : Sequence) → sliced_as (view_ty base.ty) ≡ Some s → no_int from ≡ None
      → no_int to ≡ None
      → view_expr e ≡ slice s (view_expr base) from to → Slices (view_expr base) from to (view_expr e)
  slice_answered e s c f t h =
      subst (λ (z : Expr). Slices (view_expr base) from to z) (sym h)
      (rule.slices s (view_expr base) from to (can_slice (type_of (view_expr base)) s (ap sliced_as (type_is base) ∙ c))
      (bound_is from f) (bound_is to t))

  pub of_base : sliced_as (view_ty base.ty) ≡ None → Hinders (view_expr base) from to (view_ty base.ty)
  of_base e =
      subst (λ (z : Ty). Hinders (view_expr base) from to z) (type_is base)
      (rule.of_base
      (λ s h.
      let f : None ≡ Some s = sym e ∙ ap sliced_as (sym (type_is base)) ∙ sliced_found (type_of (view_expr base)) s h in absurd cc))

  pub of_from : (s : Sequence) (t : Ty) → sliced_as (view_ty base.ty) ≡ Some s → no_int from ≡ Some t
      → Hinders (view_expr base) from to t
  of_from s t c e =
      let p = bound_is_not from t e in
      subst (λ (z : Ty). Hinders (view_expr base) from to z) p.2
      (rule.of_from s p.0 (can_slice (type_of (view_expr base)) s (ap sliced_as (type_is base) ∙ c)) p.1 p.3)

  pub of_to : (s : Sequence) (t : Ty) → sliced_as (view_ty base.ty) ≡ Some s → no_int from ≡ None → no_int to ≡ Some t
      → Hinders (view_expr base) from to t
  of_to s t c f e =
      let p = bound_is_not to t e in
      subst (λ (z : Ty). Hinders (view_expr base) from to z) p.2
      (rule.of_to s p.0 (can_slice (type_of (view_expr base)) s (ap sliced_as (type_is base) ∙ c)) (bound_is from f) p.1 p.3)

  pub refused_by : (f : ExprFault) (t : Ty) → Hinders (view_expr base) from to t → Refuses f (λ r. r ≡ Clash t Int)
      → Refuses f (λ r. ((u : Ty) × Hinders (view_expr base) from to u × (r ≡ Clash u Int))
      × NoneIs (Slices (view_expr base) from to))
  refused_by f t h r =
      refuses_as f (λ r. r ≡ Clash t Int)
      (λ r. ((u : Ty) × Hinders (view_expr base) from to u × (r ≡ Clash u Int)) × NoneIs (Slices (view_expr base) from to))
      (λ r e. ((t, h, e), hindered (view_expr base) from to t h)) r
