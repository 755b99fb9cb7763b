use Rattle.std.proofs.Common.{◌≡◌, ◌∙◌, true, false, List, sym, ap, subst, rules}
use Rattle.std.proofs.lemmas.Result.{err_from_is_err_and}
use Rattle.limbo_types.specs.Types.{ListOf}
use Rattle.limbo_types.specs.View.{view_ty}
use Rattle.limbo_types.proofs.View.{view_ty-Nil}
use Rattle.limbo_typed.specs.declared.operation.Operation.TheVariants as op
use Rattle.limbo_typed.specs.Typed.{Of, Apply}
use Rattle.limbo_typed.specs.Sound.{types_of, IsSettled}
use Rattle.limbo_typed.specs.View.{view_exprs}
use Rattle.limbo_refusals.specs.Refusals.{Refuses, NoneIs}
use Rattle.limbo_forms.proofs.Tests.{settled_is, not_settled}
use Rattle.limbo_standing.specs.Joining.{Joins}
use Rattle.limbo_arguments.specs.Failing.{FailsAll}
use Rattle.limbo_arguments.proofs.Faults.{refuses_weaker}
use Rattle.limbo_literals.specs.Literals.{Lists}
use Rattle.limbo_literals.specs.Literals as literal
use Rattle.limbo_literals.specs.Refusing.{Apart, RefusesList}
use Rattle.limbo_literals.proofs.Elements.{Value}
use Rattle.limbo_literals.proofs.Literals.{lists_none}
use Rattle.limbo_literals.proofs.literal.list.Goals as goal

pub returns-in_err-item-clause-refused : goal.returns-in_err-item-clause-refused
returns-in_err-item-clause-refused c =
    let p = err_from_is_err_and c.from_residual.result c.from_residual.ensures.1 in
    let es = view_exprs c.args.elements.items in
    let f = c.in_err-item.field-0.0 in
    rw (p.1, p.2)
    (refuses_weaker f (Apart (types_of es)) (λ r. RefusesList es r × NoneIs (Lists es)) (λ r h. lists_none es r (RefusesList.apart h))
    (subst (λ (xs : List Value). Refuses f (Apart (types_of (view_exprs xs)))) c.deref.ensures.value c.in_err-item.ensures.refused))

pub returns-then-not-is_settled-clause-typed : goal.returns-then-not-is_settled-clause-typed
returns-then-not-is_settled-clause-typed c =
    let es = view_exprs c.args.elements.items in
    let t = view_ty c.in_ok-item.item in
    let j : Joins (types_of es) t =
    subst (λ (xs : List Value). Joins (types_of (view_exprs xs)) t) c.deref.ensures.value c.in_ok-item.ensures.found in
    let n : c.is_settled.result ≡ false = search rules in
    literal.open_yet t j (not_settled t (sym c.is_settled.ensures ∙ n))
    (c.in_ok-list_of.ensures ∙ ap (λ u. Of (ListOf u) (Apply op.List es)) view_ty-Nil)

pub returns-in_err-settled-clause-refused : goal.returns-in_err-settled-clause-refused
returns-in_err-settled-clause-refused c =
    let p = err_from_is_err_and c.from_residual-in_err-settled.result c.from_residual-in_err-settled.ensures.1 in
    let es = view_exprs c.args.elements.items in
    let t = view_ty c.in_ok-item.item in
    let j : Joins (types_of es) t =
    subst (λ (xs : List Value). Joins (types_of (view_exprs xs)) t) c.deref.ensures.value c.in_ok-item.ensures.found in
    let n : c.is_settled.result ≡ true = search rules in
    let i : IsSettled t = settled_is t (sym c.is_settled.ensures ∙ n) in
    rw (p.1, p.2)
    (refuses_weaker c.in_err-settled.field-0.0 (FailsAll t es) (λ r. RefusesList es r × NoneIs (Lists es))
    (λ r h. lists_none es r (RefusesList.unlike t j i h)) c.in_err-settled.ensures.refused)

pub returns-clause-typed : goal.returns-clause-typed
returns-clause-typed c =
    let es = view_exprs c.args.elements.items in
    let t = view_ty c.in_ok-item.item in
    let j : Joins (types_of es) t =
    subst (λ (xs : List Value). Joins (types_of (view_exprs xs)) t) c.deref.ensures.value c.in_ok-item.ensures.found in
    let n : c.is_settled.result ≡ true = search rules in
    let i : IsSettled t = settled_is t (sym c.is_settled.ensures ∙ n) in
    literal.of_type t (view_exprs c.in_ok-settled.settled.items) j i c.in_ok-settled.ensures.settled c.in_ok-list_of-2.ensures
