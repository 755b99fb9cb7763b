use Rattle.std.proofs.Common.{◌≡◌, ℕ, ◌+◌, ◌++◌, inl, inr, drop, refl, sym, ap, subst, ◌∙◌, arith, unwrap_or, get_or, false, true, [], ◌∷◌}
use Rattle.std.proofs.lemmas.List.{at_drop_more}
use Rattle.limbo_types.specs.View.{view_ty, view_tys}
use Rattle.limbo_types.proofs.View.{view_ty-Adt}
use Rattle.limbo_layout.specs.Adts.{Has, held, all_held}
use Rattle.limbo_layout.specs.Paths.{IsAt}
use Rattle.limbo_layout.proofs.Unlaid.{none_there, unlaid_all, unlaid_only, unlaid_found, is_marked, not_marked}
use Rattle.limbo_layout.proofs.order.+unlaid.Goals as goal

pub unlaid_in_tuple-returns-in-Some-clause-some : goal.unlaid_in_tuple-returns-in-Some-clause-some
unlaid_in_tuple-returns-in-Some-clause-some t c =
    let own = held (view_ty c.t-item.result) in
    let rest = all_held (view_tys (drop (c.loop-t.t-index + 1) c.args.parts.now)) in
    let e : all_held (view_tys (drop c.loop-t.t-index c.args.parts.now)) ≡ own ++ rest =
    at_drop_more (λ ts. all_held (view_tys ts)) c.args.parts.now c.loop-t.t-index c.t-item.result (omega arith) ∙ ap (λ x. held (view_ty x) ++ rest) (sym c.t-item.is) in
    (unlaid_found own rest _ _ e c.loop-t.invariant.only c.in-Some.number c.in-Some.ensures.some.0, c.in-Some.ensures.some.1)

pub unlaid_in_tuple-loop-t-preserved : goal.unlaid_in_tuple-loop-t-preserved
unlaid_in_tuple-loop-t-preserved t c =
    let own = held (view_ty c.t-item.result) in
    let rest = all_held (view_tys (drop (c.loop-t.t-index + 1) c.args.parts.now)) in
    let e : all_held (view_tys (drop c.loop-t.t-index c.args.parts.now)) ≡ own ++ rest =
    at_drop_more (λ ts. all_held (view_tys ts)) c.args.parts.now c.loop-t.t-index c.t-item.result (omega arith) ∙ ap (λ x. held (view_ty x) ++ rest) (sym c.t-item.is) in
    record {
      all = unlaid_all c.args.laid.now own rest _ _ e (none_there c.unlaid_in_type.result _ c.unlaid_in_type.ensures.none (λ x h. c.in_default.not-Some x h)) c.loop-t.invariant.all;
      only = unlaid_only own rest _ _ e c.loop-t.invariant.only;
    }

pub unlaid_in_type-returns-then-unwrap_or-clause-none : goal.unlaid_in_type-returns-then-unwrap_or-clause-none
unlaid_in_type-returns-then-unwrap_or-clause-none t c = λ n h.
    let e : get_or c.args.laid.now c.in-Adt.number false ≡ true = sym (c.if-unwrap_or.ensures ∙ ap (λ o. unwrap_or o false) c.copied.ensures ∙ c.get.ensures.lookup.4 (omega arith) false) in
    let g : Has (c.in-Adt.number ∷ []) n = rw (c.in-Adt.is, view_ty-Adt) at h in
    elim g [
      | inl f ↦ subst (λ (z : ℕ). IsAt c.args.laid.now z true) f (is_marked c.args.laid.now c.in-Adt.number e)
      | inr f ↦ absurd f
    ]

pub unlaid_in_type-returns-else-unwrap_or-clause-some : goal.unlaid_in_type-returns-else-unwrap_or-clause-some
unlaid_in_type-returns-else-unwrap_or-clause-some t c =
    let e : get_or c.args.laid.now c.in-Adt.number false ≡ false = sym (c.if-unwrap_or.ensures ∙ ap (λ o. unwrap_or o false) c.copied.ensures ∙ c.get.ensures.lookup.4 (omega arith) false) in
    (rw (c.in-Adt.is, view_ty-Adt) (inl refl), not_marked c.args.laid.now c.in-Adt.number e)
