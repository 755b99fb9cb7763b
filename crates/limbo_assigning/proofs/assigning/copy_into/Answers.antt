use Rattle.std.proofs.Common.{◌≡◌, true, false, sym, ap, ◌∙◌}
use Rattle.limbo_types.specs.declared.ty.Ty as code_ty
use Rattle.limbo_types.specs.Types.{Ty, Int}
use Rattle.limbo_types.specs.View.{view_ty}
use Rattle.limbo_types.proofs.View.{view_ty-Int}
use Rattle.limbo_typed.specs.declared.expr.TExpr as code_expr
use Rattle.limbo_typed.specs.View.{view_expr}
use Rattle.limbo_typed.specs.Sound.{type_of}
use Rattle.limbo_forms.specs.Forms.{is_int}
use Rattle.limbo_standing.specs.Standing.{Settles}
use Rattle.limbo_refusals.specs.Refusals.{Clash, Refuses, NoneIs}
use Rattle.limbo_assigning.specs.Choosing.{is_known_array}
use Rattle.limbo_assigning.proofs.Told.{at, both_at, some_is, none_is, copies_so, no_array_copies, no_value_copies, values_refused, index_refused}
use Rattle.limbo_assigning.proofs.Told.{type_in_view}
use Rattle.limbo_assigning.proofs.assigning.copy_into.Goals as goal

pub returns-then-not-is_array-clause-refused : goal.returns-then-not-is_array-clause-refused
returns-then-not-is_array-clause-refused c =
    let array = view_expr c.args.array.value in
    let value = view_expr c.args.value.value in
    values_refused c.clash_with.result array (view_expr c.args.from.value) value
    (no_array_copies array (view_expr c.args.from.value) value
    (at (λ (z : code_expr.TExpr). is_known_array (type_of (view_expr z)) ≡ false) c.deref-2.result.now c.args.array.value c.deref-2.ensures
    (sym c.is_array.ensures ∙ c.if-not-is_array.true)))
    (at (λ (z : Ty). Refuses c.clash_with.result (λ q. q ≡ Clash (type_of array) z)) (view_ty c.in_ok-before.before.value) (type_of value)
    (c.in_ok-before.ensures ∙ ap (λ (z : code_expr.TExpr). type_of (view_expr z)) c.deref.ensures)
    (both_at (λ (x : code_expr.TExpr) (t : code_ty.Ty). Refuses c.clash_with.result (λ q. q ≡ Clash (type_of (view_expr x)) (view_ty t)))
    c.deref-then-not-is_array.result.now c.args.array.value c.deref-then-not-is_array-2.result.now c.in_ok-before.before.value
    c.deref-then-not-is_array.ensures c.deref-then-not-is_array-2.ensures c.clash_with.ensures))

pub returns-then-not-has_int-clause-refused : goal.returns-then-not-has_int-clause-refused
returns-then-not-has_int-clause-refused c =
    index_refused c.clash_with-then-not-has_int.result (view_expr c.args.array.value) (view_expr c.args.from.value) (view_expr c.args.value.value)
    (at (λ (z : code_expr.TExpr). is_int (type_of (view_expr z)) ≡ false) c.deref-3.result.now c.args.from.value c.deref-3.ensures
    (sym c.has_int.ensures ∙ c.if-not-has_int.true))
    (both_at (λ (x : code_expr.TExpr) (z : Ty). Refuses c.clash_with-then-not-has_int.result (λ q. q ≡ Clash (type_of (view_expr x)) z))
    c.deref-then-not-has_int.result.now c.args.from.value _ Int c.deref-then-not-has_int.ensures view_ty-Int c.clash_with-then-not-has_int.ensures)

pub returns-in_default-clause-refused : goal.returns-in_default-clause-refused
returns-in_default-clause-refused c =
    let array = view_expr c.args.array.value in
    let value = view_expr c.args.value.value in
    values_refused c.clash_with-in_default.result array (view_expr c.args.from.value) value
    (no_value_copies array (view_expr c.args.from.value) value
    (at (λ (z : Ty). NoneIs (Settles z value)) (view_ty c.deref-4.result.now.ty) (type_of array)
    (sym (type_in_view c.deref-4.result.now) ∙ ap (λ (z : code_expr.TExpr). type_of (view_expr z)) c.deref-4.ensures)
    (none_is c.in_ok-settled.field-0 _ c.in_default.is c.in_ok-settled.ensures.none)))
    (at (λ (z : Ty). Refuses c.clash_with-in_default.result (λ q. q ≡ Clash (type_of array) z)) (view_ty c.in_ok-before.before.value) (type_of value)
    (c.in_ok-before.ensures ∙ ap (λ (z : code_expr.TExpr). type_of (view_expr z)) c.deref.ensures)
    (both_at (λ (x : code_expr.TExpr) (t : code_ty.Ty). Refuses c.clash_with-in_default.result (λ q. q ≡ Clash (type_of (view_expr x)) (view_ty t)))
    c.deref-in_default.result.now c.args.array.value c.deref-in_default-2.result.now c.in_ok-before.before.value
    c.deref-in_default.ensures c.deref-in_default-2.ensures c.clash_with-in_default.ensures))

pub returns-clause-typed : goal.returns-clause-typed
returns-clause-typed c =
    let array = view_expr c.args.array.value in
    let value = view_expr c.args.value.value in
    copies_so array (view_expr c.args.from.value) value (view_expr c.in-Some.settled.value) (view_expr c.in_ok-copied.field-0.value)
    (at (λ (z : code_expr.TExpr). is_known_array (type_of (view_expr z)) ≡ true) c.deref-2.result.now c.args.array.value c.deref-2.ensures
    (sym c.is_array.ensures ∙ c.if-not-is_array.false))
    (at (λ (z : code_expr.TExpr). is_int (type_of (view_expr z)) ≡ true) c.deref-3.result.now c.args.from.value c.deref-3.ensures
    (sym c.has_int.ensures ∙ c.if-not-has_int.false))
    (at (λ (z : Ty). Settles z value (view_expr c.in-Some.settled.value)) (view_ty c.deref-4.result.now.ty) (type_of array)
    (sym (type_in_view c.deref-4.result.now) ∙ ap (λ (z : code_expr.TExpr). type_of (view_expr z)) c.deref-4.ensures)
    (some_is c.in_ok-settled.field-0 c.in-Some.settled (λ e. Settles (view_ty c.deref-4.result.now.ty) value (view_expr e.value)) c.in-Some.is
    c.in_ok-settled.ensures.found))
    c.in_ok-copied.ensures
