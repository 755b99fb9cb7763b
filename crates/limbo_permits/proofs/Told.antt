-- What is told of an expression of the code.
use Rattle.std.proofs.Common.{◌≡◌, ◌≢◌, ◌↔◌, Bool, true, false, IsTrue, Option, None, Some, refl, sym, subst, ◌∙◌}
use Rattle.limbo_types.specs.Types.{Ty, Nothing}
use Rattle.limbo_types.specs.View.{view_ty}
use Rattle.limbo_typed.specs.declared.expr.TExpr as code_expr
use Rattle.limbo_typed.specs.Typed.{Expr, Of}
use Rattle.limbo_typed.specs.Sound.{type_of, IsSettled}
use Rattle.limbo_typed.specs.View.{view_expr, view_node}
use Rattle.limbo_typed.proofs.View.{view_expr-out}
use Rattle.limbo_forms.specs.Forms.{is_settled}
use Rattle.limbo_forms.proofs.Tests.{settled_is, settled_true}
use Rattle.limbo_refusals.specs.declared.fault.ExprFault.{ExprFault}
use Rattle.limbo_refusals.specs.Refusals.{Refusal, Refuses, NoneIs, told}
use Rattle.limbo_stores.specs.Stores.{RefusesStore}
use Rattle.limbo_context.specs.Context.{Context}
use Rattle.limbo_permits.specs.Permits.{Permits, ForbidsType, IsPermitted, Forbids, by_type, by_store}
use Rattle.limbo_permits.specs.Counting.{is_some_type}

-- ---- its type

some_type_told : (t : Ty) (r : Bool) → r ≡ is_some_type t → IsTrue r ↔ (t ≢ Nothing)
some_type_told Nothing r e = (λ h. absurd (let f : true ≡ false = sym h ∙ e in cc), λ n. absurd (n refl))
some_type_told _ r e = (λ h. λ n. cc, λ n. e)

pub answer_told : (e : code_expr.TExpr) (r : Bool) → r ≡ is_some_type (view_ty e.ty) → IsTrue r ↔ (type_of (view_expr e) ≢ Nothing)
answer_told e r h = subst (λ (z : Expr). IsTrue r ↔ (type_of z ≢ Nothing)) (sym (view_expr-out e)) (some_type_told (view_ty e.ty) r h)

pub settled_told : (e : code_expr.TExpr) (r : Bool) → r ≡ is_settled (view_ty e.ty) → IsTrue r ↔ IsSettled (type_of (view_expr e))
settled_told e r h =
    subst (λ (z : Expr). IsTrue r ↔ IsSettled (type_of z)) (sym (view_expr-out e))
    (λ k. settled_is (view_ty e.ty) (sym h ∙ k), λ s. h ∙ settled_true (view_ty e.ty) s)

-- ---- where it may stand

weaker : (f : ExprFault) (P Q : Refusal → Type 0) → ((r : Refusal) → P r → Q r) → Refuses f P → Refuses f Q
weaker f P Q w h = go (told f) h
  where
    go : (o : Option Refusal) → (elim o as (λ (z : Option Refusal). Type 0) [ None ↦ Unit {0} | Some r ↦ P r ])
        → (elim o as (λ (z : Option Refusal). Type 0) [ None ↦ Unit {0} | Some r ↦ Q r ])
    go None h = tt
    go (Some r) h = w r h

module _ (c : Context) (e : code_expr.TExpr) where
  pub refused_type : (f : ExprFault) → Refuses f (ForbidsType c (view_ty e.ty)) → Refuses f (Forbids c (view_expr e))
  refused_type f h =
      subst (λ (z : Expr). Refuses f (Forbids c z)) (sym (view_expr-out e))
      (weaker f (ForbidsType c (view_ty e.ty)) (Forbids c (Of (view_ty e.ty) (view_node e.node))) (λ r k. by_type k) h)

  pub refused_store : (f : ExprFault) → Refuses f (RefusesStore c.adts c.fd (view_node e.node)) → Refuses f (Forbids c (view_expr e))
  refused_store f h =
      subst (λ (z : Expr). Refuses f (Forbids c z)) (sym (view_expr-out e))
      (weaker f (RefusesStore c.adts c.fd (view_node e.node)) (Forbids c (Of (view_ty e.ty) (view_node e.node))) (λ r k. by_store k) h)

  pub permitted : Permits c (view_ty e.ty) → NoneIs (RefusesStore c.adts c.fd (view_node e.node)) → IsPermitted c (view_expr e)
  permitted t s = subst (λ (z : Expr). IsPermitted c z) (sym (view_expr-out e)) (record { type = t; store = s })
