use Rattle.std.proofs.Common.{◌≡◌, ap, ◌∙◌}
use Rattle.limbo_types.specs.declared.ty.Ty as code_ty
use Rattle.limbo_types.specs.Types.{Ty}
use Rattle.limbo_types.specs.View.{view_ty}
use Rattle.limbo_typed.specs.declared.expr.TExpr as code_expr
use Rattle.limbo_typed.specs.declared.expr.Pattern as code_pattern
use Rattle.limbo_typed.specs.View.{view_expr, view_pattern}
use Rattle.limbo_typed.specs.Sound.{type_of}
use Rattle.limbo_standing.specs.Standing.{Settles}
use Rattle.limbo_refusals.specs.Refusals.{Clash, Refuses, NoneIs}
use Rattle.limbo_assigning.specs.Assigning.{Asks, Assigns, type_in}
use Rattle.limbo_assigning.proofs.Told.{at, both_at, some_is, none_is, assigns_so, assigns_none, refuses_that}
use Rattle.limbo_assigning.proofs.assigning.assign.Goals as goal

pub returns-in_default-2-clause-refused : goal.returns-in_default-2-clause-refused
returns-in_default-2-clause-refused c =
    let p = view_pattern c.args.pattern.value in
    let value = view_expr c.args.value.value in
    refuses_that c.misfit-in_default-2.result (Clash (type_in p) (type_of value)) (NoneIs (Assigns p value))
    (assigns_none p value (view_ty c.in-Some.asked.value)
    (both_at (λ (x : code_pattern.Pattern) (y : code_expr.TExpr). Asks (view_pattern x) (type_of (view_expr y)) (view_ty c.in-Some.asked.value))
    c.deref-2.result.now c.args.pattern.value c.deref-3.result.now c.args.value.value c.deref-2.ensures c.deref-3.ensures
    (some_is c.in_ok-asked.field-0 c.in-Some.asked
    (λ t. Asks (view_pattern c.deref-2.result.now) (type_of (view_expr c.deref-3.result.now)) (view_ty t.value)) c.in-Some.is
    c.in_ok-asked.ensures.asked))
    (at (λ (z : code_ty.Ty). NoneIs (Settles (view_ty z) value)) c.deref-4.result.now c.in-Some.asked.value c.deref-4.ensures
    (none_is c.in_ok-settled.field-0 _ c.in_default-2.is c.in_ok-settled.ensures.none)))
    (at (λ (z : Ty). Refuses c.misfit-in_default-2.result (λ q. q ≡ Clash (type_in p) z)) (view_ty c.in_ok-before.before.value) (type_of value)
    (c.in_ok-before.ensures ∙ ap (λ (z : code_expr.TExpr). type_of (view_expr z)) c.deref.ensures)
    (both_at (λ (x : code_pattern.Pattern) (t : code_ty.Ty). Refuses c.misfit-in_default-2.result (λ q. q ≡ Clash (type_in (view_pattern x)) (view_ty t)))
    c.deref-in_default-2-2.result.now c.args.pattern.value c.deref-in_default-2-3.result.now c.in_ok-before.before.value
    c.deref-in_default-2-2.ensures c.deref-in_default-2-3.ensures c.misfit-in_default-2.ensures))

pub returns-clause-typed : goal.returns-clause-typed
returns-clause-typed c =
    let p = view_pattern c.args.pattern.value in
    let value = view_expr c.args.value.value in
    assigns_so p value (view_expr c.in-Some-2.settled.value) (view_expr c.in_ok-assigned.field-0.value) (view_ty c.in-Some.asked.value)
    (both_at (λ (x : code_pattern.Pattern) (y : code_expr.TExpr). Asks (view_pattern x) (type_of (view_expr y)) (view_ty c.in-Some.asked.value))
    c.deref-2.result.now c.args.pattern.value c.deref-3.result.now c.args.value.value c.deref-2.ensures c.deref-3.ensures
    (some_is c.in_ok-asked.field-0 c.in-Some.asked
    (λ t. Asks (view_pattern c.deref-2.result.now) (type_of (view_expr c.deref-3.result.now)) (view_ty t.value)) c.in-Some.is
    c.in_ok-asked.ensures.asked))
    (at (λ (z : code_ty.Ty). Settles (view_ty z) value (view_expr c.in-Some-2.settled.value)) c.deref-4.result.now c.in-Some.asked.value c.deref-4.ensures
    (some_is c.in_ok-settled.field-0 c.in-Some-2.settled (λ e. Settles (view_ty c.deref-4.result.now) value (view_expr e.value)) c.in-Some-2.is
    c.in_ok-settled.ensures.found))
    c.in_ok-assigned.ensures
