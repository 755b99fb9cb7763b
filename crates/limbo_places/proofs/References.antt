-- References to values are what the definition says.
use Rattle.std.proofs.Common.{◌≡◌, ◌==◌, ℕ, Bool, true, false, cond, Option, Some, None, refl, sym, ap, subst, ◌∙◌}
use Rattle.std.proofs.Common.{rules, tests}
use Rattle.std.proofs.lemmas.Bool.{eqb-true}
use Rattle.limbo_types.specs.Types.{Ty, Adt}
use Rattle.limbo_types.specs.View.{view_ty}
use Rattle.limbo_typed.specs.declared.expr.TExpr as code_expr
use Rattle.limbo_typed.specs.declared.operation.Operation.{Operation}
use Rattle.limbo_typed.specs.declared.operation.Operation.TheVariants as op
use Rattle.limbo_typed.specs.Typed.{Expr, Of, Node, Apply}
use Rattle.limbo_typed.specs.View.{view_expr, view_node}
use Rattle.limbo_typed.proofs.View.{view_expr-out}
use Rattle.limbo_refusals.specs.Refusals.{NoneIs}
use Rattle.limbo_places.specs.Places.{on_one}
use Rattle.limbo_places.specs.Targets.{IsMadeAs, Refers}
use Rattle.limbo_places.specs.Targets as rule
use Rattle.limbo_places.specs.Choosing.{adt_of, variant_made, made_as, ref_type, reference}

adt_is : (t : Ty) (n : ℕ) → adt_of t ≡ Some n → t ≡ Adt n
adt_is (Adt m) n e = let f : m ≡ n = cc in ap Adt f
adt_is _ n e = absurd cc

variant_is : (n : ℕ) (o : Operation) (v : ℕ) → variant_made n o ≡ Some v → o ≡ op.Adt n (Some v)
variant_is n (op.Adt m w) v e = go (m == n) refl e
  where
    go : (b : Bool) → (m == n) ≡ b → cond b w None ≡ Some v → op.Adt m w ≡ op.Adt n (Some v)
    go true h e = ap (λ (z : ℕ). op.Adt z w) (eqb-true m n h) ∙ ap (op.Adt n) e
    go false h e = absurd cc
variant_is n _ v e = absurd cc

made_is : (n : ℕ) (i : Node) (v : ℕ) → made_as n i ≡ Some v → IsMadeAs n v i
made_is n (Apply o es) v e = (es, ap (λ (z : Operation). Apply z es) (variant_is n o v e))
made_is n _ v e = absurd cc

eqb_same : (n : ℕ) → (n == n) ≡ true
eqb_same n = search (rules, tests)

made_found : (n : ℕ) (i : Node) (v : ℕ) → IsMadeAs n v i → made_as n i ≡ Some v
made_found n i v h = ap (made_as n) h.1 ∙ rw (eqb_same n) refl

reference_given : (n : ℕ) (i : Node) → Refers (Of (Adt n) i) (reference n (Adt n) i)
reference_given n i = go (made_as n i) refl
  where
    go : (o : Option ℕ) → made_as n i ≡ o → Refers (Of (Adt n) i) (Of (ref_type n o) (on_one op.Ref (Of (Adt n) i)))
    go (Some v) e = rule.Refers.variant n v i (made_is n i v e)
    go None e = rule.whole n i (λ v h. let f : None ≡ Some v = sym e ∙ made_found n i v h in absurd cc)

none_made : (n : ℕ) (i : Node) → ((v : ℕ) → IsMadeAs n v i → ⊥) → made_as n i ≡ None
none_made n i h = go (made_as n i) refl
  where
    go : (o : Option ℕ) → made_as n i ≡ o → o ≡ None
    go (Some v) e = absurd (h v (made_is n i v e))
    go None e = refl

refers_is : (t : Ty) (i : Node) (e : Expr) → Refers (Of t i) e → (n : ℕ) × (t ≡ Adt n) × (e ≡ reference n t i)
refers_is _ _ _ (rule.Refers.variant n v i h) = (n, refl, rw (made_found n i v h) refl)
refers_is _ _ _ (rule.whole n i h) = (n, refl, rw (none_made n i h) refl)

pub refers_once : (value e f : Expr) → Refers value e → Refers value f → e ≡ f
refers_once (Of t i) e f h k =
    let p = refers_is t i e h in
    let q = refers_is t i f k in
    let r : Adt p.0 ≡ Adt q.0 = sym p.1 ∙ q.1 in
    let s : p.0 ≡ q.0 = cc in
    p.2 ∙ ap (λ (z : ℕ). reference z t i) s ∙ sym q.2

-- ---- what is answered

at_adt : (t : Ty) (i : Node) (n : ℕ) → t ≡ Adt n → Refers (Of t i) (reference n t i)
at_adt t i n e = subst (λ (z : Ty). Refers (Of z i) (reference n z i)) (sym e) (reference_given n i)

pub reference_answered : (value e : code_expr.TExpr) (n : ℕ) → adt_of (view_ty value.ty) ≡ Some n
    → view_expr e ≡ reference n (view_ty value.ty) (view_node value.node) → Refers (view_expr value) (view_expr e)
reference_answered value e n h k =
    subst (λ (z : Expr). Refers z (view_expr e)) (sym (view_expr-out value))
    (subst (λ (z : Expr). Refers (Of (view_ty value.ty) (view_node value.node)) z) (sym k)
    (at_adt (view_ty value.ty) (view_node value.node) n (adt_is (view_ty value.ty) n h)))

pub no_reference_answered : (value : code_expr.TExpr) → adt_of (view_ty value.ty) ≡ None → NoneIs (Refers (view_expr value))
no_reference_answered value h e k =
    let p = refers_is (view_ty value.ty) (view_node value.node) e (subst (λ (z : Expr). Refers z e) (view_expr-out value) k) in
    let f : None ≡ Some p.0 = sym h ∙ ap adt_of p.1 in
    absurd cc
