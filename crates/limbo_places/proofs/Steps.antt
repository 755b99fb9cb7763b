-- Steps are what the definition says.
use Rattle.std.proofs.Common.{◌≡◌, [], refl, sym, ap, subst, ◌∙◌}
use Rattle.limbo_types.specs.Types.{Ty}
use Rattle.limbo_types.specs.View.{view_ty}
use Rattle.limbo_tree.specs.declared.operators.PostfixOp.{PostfixOp}
use Rattle.limbo_typed.specs.declared.expr.TExpr as code_expr
use Rattle.limbo_typed.specs.declared.operation.Given.{Given}
use Rattle.limbo_typed.specs.declared.operation.Operation.{Operation}
use Rattle.limbo_typed.specs.Typed.{Expr, Of, Node, Read, Step, Place}
use Rattle.limbo_typed.specs.View.{view_expr, view_node}
use Rattle.limbo_typed.proofs.View.{view_expr-out}
use Rattle.limbo_prefixes.specs.Rows.{OneRow, UnaryRow, before_of}
use Rattle.limbo_prefixes.proofs.OneTable.{unary_once}
use Rattle.limbo_refusals.specs.declared.fault.ExprFault.{ExprFault}
use Rattle.limbo_refusals.specs.Refusals.{Clash, NotPlace, Refuses, NoneIs}
use Rattle.limbo_places.specs.Places.{IsNoPlace}
use Rattle.limbo_places.specs.Steps.{Steps, not_stepped}
use Rattle.limbo_places.specs.Steps as rule
use Rattle.limbo_places.proofs.Told.{refuses_as, refuses_with}

steps_is : (o : PostfixOp) (g : Given) (t : Ty) (n : Node) (e : Expr) → Steps o g (Of t n) e
    → (p : Place) × (row : OneRow) × (n ≡ Read p) × UnaryRow [] (before_of o) t row × (e ≡ Of t (Step row.operation g p))
steps_is o g _ _ _ (rule.steps t p row h) = (p, row, refl, h, refl)

pub steps_once : (o : PostfixOp) (g : Given) (e f h : Expr) → Steps o g e f → Steps o g e h → f ≡ h
steps_once o g (Of t n) e f h k =
    let p = steps_is o g t n e h in
    let q = steps_is o g t n f k in
    let r : Read p.0 ≡ Read q.0 = sym p.2 ∙ q.2 in
    let s : p.0 ≡ q.0 = cc in
    let u : p.1 ≡ q.1 = unary_once [] (before_of o) t p.1 q.1 p.3 q.3 in
    p.4 ∙ ap (λ (z : OneRow). Of t (Step z.operation g p.0)) u ∙ ap (λ (z : Place). Of t (Step q.1.operation g z)) s ∙ sym q.4

-- ---- what is answered

no_place_stepped : (t : Ty) (n : Node) → IsNoPlace n → NotPlace ≡ not_stepped (Of t n)
no_place_stepped t (Read p) h = absurd (h p refl)
no_place_stepped t _ h = refl

module _ (e : code_expr.TExpr) where
  pub no_place_refused : IsNoPlace (view_node e.node) → NotPlace ≡ not_stepped (view_expr e)
  no_place_refused h = no_place_stepped (view_ty e.ty) (view_node e.node) h ∙ ap not_stepped (sym (view_expr-out e))

  place_refused : (p : Place) → view_node e.node ≡ Read p → Clash (view_ty e.ty) (view_ty e.ty) ≡ not_stepped (view_expr e)
  place_refused p h = ap (λ (z : Node). not_stepped (Of (view_ty e.ty) z)) (sym h) ∙ ap not_stepped (sym (view_expr-out e))

  module _ (o : PostfixOp) (g : Given) where
    given : (s : Expr) (p : Place) (row : OneRow) → view_node e.node ≡ Read p → UnaryRow [] (before_of o) (view_ty e.ty) row
        → s ≡ Of (view_ty e.ty) (Step row.operation g p) → Steps o g (view_expr e) s
    given s p row n h k =
        let from : view_expr e ≡ Of (view_ty e.ty) (Read p) = view_expr-out e ∙ ap (Of (view_ty e.ty)) n in
        subst (λ (z : Expr). Steps o g z s) (sym from)
        (subst (λ (z : Expr). Steps o g (Of (view_ty e.ty) (Read p)) z) (sym k) (rule.steps (view_ty e.ty) p row h))

    pub step_answered : (s : code_expr.TExpr) (p : Place) (t : Ty) (done : Operation) → view_node e.node ≡ Read p → t ≡ view_ty e.ty
        → (row : OneRow) × UnaryRow [] (before_of o) t row × (done ≡ row.operation) → view_expr s ≡ Of t (Step done g p)
        → Steps o g (view_expr e) (view_expr s)
    step_answered s p t done n a r k =
        given (view_expr s) p r.0 n (subst (λ (z : Ty). UnaryRow [] (before_of o) z r.0) a r.1)
        (k ∙ ap (λ (z : Ty). Of z (Step done g p)) a ∙ ap (λ (z : Operation). Of (view_ty e.ty) (Step z g p)) r.2)

    pub no_place_answered : IsNoPlace (view_node e.node) → NoneIs (Steps o g (view_expr e))
    no_place_answered none f h =
        let p = steps_is o g (view_ty e.ty) (view_node e.node) f (subst (λ (z : Expr). Steps o g z f) (view_expr-out e) h) in
        none p.0 p.2

    no_row : (t : Ty) → t ≡ view_ty e.ty → ((row : OneRow) → UnaryRow [] (before_of o) t row → ⊥)
        → NoneIs (Steps o g (view_expr e))
    no_row t a none f h =
        let p = steps_is o g (view_ty e.ty) (view_node e.node) f (subst (λ (z : Expr). Steps o g z f) (view_expr-out e) h) in
        none p.1 (subst (λ (z : Ty). UnaryRow [] (before_of o) z p.1) (sym a) p.3)

    pub clash_answered : (f : ExprFault) (p : Place) (t : Ty) → view_node e.node ≡ Read p → t ≡ view_ty e.ty
        → ((row : OneRow) → UnaryRow [] (before_of o) t row → ⊥) → Refuses f (λ r. r ≡ Clash t t)
        → Refuses f (λ r. (r ≡ not_stepped (view_expr e)) × NoneIs (Steps o g (view_expr e)))
    clash_answered f p t n a none h =
        refuses_with f (λ r. r ≡ not_stepped (view_expr e)) (NoneIs (Steps o g (view_expr e))) (no_row t a none)
        (refuses_as f (λ r. r ≡ Clash t t) (λ r. r ≡ not_stepped (view_expr e))
        (λ r q. q ∙ ap (λ (z : Ty). Clash z z) a ∙ place_refused p n) h)
