use Rattle.std.proofs.Common.{◌≡◌, ◌∙◌, true, false, List, sym, ap, subst, rules}
use Rattle.std.proofs.lemmas.Result.{err_from_is_err_and, IfOk-weaker, IfErr-weaker}
use Rattle.limbo_types.specs.Types.{ArrayOf}
use Rattle.limbo_types.specs.View.{view_ty}
use Rattle.limbo_types.proofs.View.{view_ty-Nil}
use Rattle.limbo_typed.specs.Typed.{Of, Filled, Items, Optional}
use Rattle.limbo_typed.specs.Sound.{IsSettled}
use Rattle.limbo_typed.specs.View.{view_expr, view_optional}
use Rattle.limbo_refusals.specs.Refusals.{Refuses, NoneIs}
use Rattle.limbo_forms.proofs.Tests.{settled_is, not_settled}
use Rattle.limbo_standing.specs.Joining.{Joins}
use Rattle.limbo_standing.specs.Standing.{SettleItems, SettleRest}
use Rattle.limbo_arguments.proofs.Faults.{refuses_weaker}
use Rattle.limbo_literals.specs.Literals.{Fills, element_types}
use Rattle.limbo_literals.specs.Literals as literal
use Rattle.limbo_literals.specs.Refusing.{Apart, NoLengthIn, RefusesFill, UnlikeItems}
use Rattle.limbo_literals.specs.Refusing as refusing
use Rattle.limbo_literals.proofs.Elements.{Element, left}
use Rattle.limbo_literals.proofs.Literals.{fills_none}
use Rattle.limbo_literals.proofs.literal.filled_array.Goals as goal

pub returns-in_err-check_length_in-clause-refused : goal.returns-in_err-check_length_in-clause-refused
returns-in_err-check_length_in-clause-refused c =
    let p = err_from_is_err_and c.from_residual.result c.from_residual.ensures.1 in
    let k = view_optional c.args.length in
    let is = left c.args.items.items in
    let rest = view_optional c.args.rest in
    rw (p.1, p.2)
    (refuses_weaker c.in_err-check_length_in.field-0.0 (NoLengthIn k) (λ r. RefusesFill k is rest r × NoneIs (Fills k is rest))
    (λ r h. fills_none k is rest r (refusing.no_length h)) c.in_err-check_length_in.ensures.refused)

pub returns-in_err-item-clause-refused : goal.returns-in_err-item-clause-refused
returns-in_err-item-clause-refused c =
    let p = err_from_is_err_and c.from_residual-in_err-item.result c.from_residual-in_err-item.ensures.1 in
    let k = view_optional c.args.length in
    let is = left c.args.items.items in
    let rest = view_optional c.args.rest in
    let f = c.in_err-item.field-0.0 in
    rw (p.1, p.2)
    (refuses_weaker f (Apart (element_types is rest)) (λ r. RefusesFill k is rest r × NoneIs (Fills k is rest))
    (λ r h. fills_none k is rest r (RefusesFill.apart h))
    (subst (λ (xs : List Element). Refuses f (Apart (element_types (left xs) rest))) c.deref.ensures.value c.in_err-item.ensures.refused))

pub returns-then-not-is_settled-clause-typed : goal.returns-then-not-is_settled-clause-typed
returns-then-not-is_settled-clause-typed c =
    let k = view_optional c.args.length in
    let is = left c.args.items.items in
    let rest = view_optional c.args.rest in
    let t = view_ty c.in_ok-item.item in
    let j : Joins (element_types is rest) t =
    subst (λ (xs : List Element). Joins (element_types (left xs) rest) t) c.deref.ensures.value c.in_ok-item.ensures.found in
    let n : c.is_settled.result ≡ false = search rules in
    literal.open_elements t c.in_ok-check_length_in.ensures.int j (not_settled t (sym c.is_settled.ensures ∙ n))
    (c.in_ok-array_of.ensures ∙ ap (λ u. Of (ArrayOf u) (Filled k is rest)) view_ty-Nil)

pub returns-clause-typed : goal.returns-clause-typed
returns-clause-typed c =
    let k = view_optional c.args.length in
    let is = left c.args.items.items in
    let rest = view_optional c.args.rest in
    let t = view_ty c.in_ok-item.item in
    let j : Joins (element_types is rest) t =
    subst (λ (xs : List Element). Joins (element_types (left xs) rest) t) c.deref.ensures.value c.in_ok-item.ensures.found in
    let n : c.is_settled.result ≡ true = search rules in
    let i : IsSettled t = settled_is t (sym c.is_settled.ensures ∙ n) in
    IfOk-weaker c.settled_array.result
    (λ e. (js : Items) × (last : Optional) × SettleItems t is js × SettleRest t rest last
    × (view_expr e.value ≡ Of (ArrayOf t) (Filled k js last))) _
    (λ e h. literal.of_elements t h.0 h.1 c.in_ok-check_length_in.ensures.int j i h.2 h.3 h.4) c.settled_array.ensures.typed

pub returns-clause-refused : goal.returns-clause-refused
returns-clause-refused c =
    let k = view_optional c.args.length in
    let is = left c.args.items.items in
    let rest = view_optional c.args.rest in
    let t = view_ty c.in_ok-item.item in
    let j : Joins (element_types is rest) t =
    subst (λ (xs : List Element). Joins (element_types (left xs) rest) t) c.deref.ensures.value c.in_ok-item.ensures.found in
    let n : c.is_settled.result ≡ true = search rules in
    let i : IsSettled t = settled_is t (sym c.is_settled.ensures ∙ n) in
    IfErr-weaker c.settled_array.result (λ f. Refuses f (UnlikeItems t is rest)) _
    (λ f h. refuses_weaker f (UnlikeItems t is rest) (λ r. RefusesFill k is rest r × NoneIs (Fills k is rest))
    (λ r g. fills_none k is rest r (RefusesFill.unlike t j i g)) h)
    c.settled_array.ensures.refused
