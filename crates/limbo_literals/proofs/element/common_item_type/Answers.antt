use Rattle.std.proofs.Common.{◌≡◌, ◌∙◌, ◌<◌, ◌++◌, [], ◌∷◌, List, None, Some, length, get_or, map, option_map, sym, ap, subst, arith}
use Rattle.std.proofs.lemmas.Result.{err_from_is_err_and}
use Rattle.limbo_types.specs.Types.{Ty}
use Rattle.limbo_types.specs.View.{view_ty}
use Rattle.limbo_typed.specs.View.{view_optional}
use Rattle.limbo_refusals.specs.Refusals.{Refusal, Clash}
use Rattle.limbo_standing.specs.Joining.{Joins, join, or_nil}
use Rattle.limbo_arguments.proofs.Faults.{refuses_weaker}
use Rattle.limbo_literals.specs.Literals.{element_types, rest_types}
use Rattle.limbo_literals.specs.Refusing.{Apart}
use Rattle.limbo_literals.proofs.Elements.{Value, type_in, left, so_far, next_in, parted, parted_in, whole_in, one_more, joins_so_far}
use Rattle.limbo_literals.proofs.Elements.{all_types, types_none, types_some}
use Rattle.limbo_literals.proofs.element.common_item_type.Goals as goal

pub returns-in_err-join_one-clause-refused : goal.returns-in_err-join_one-clause-refused
returns-in_err-join_one-clause-refused c =
    let p = err_from_is_err_and c.from_residual.result c.from_residual.ensures.1 in
    let is = c.args.items.now in
    let l : c.loop-item.item-index < length is = omega arith in
    let s = option_map view_ty c.loop-item.found in
    let x = c.item-item.result in
    let first = get_or is 0 c.index-items-0.result in
    let rest = view_optional c.args.rest.now in
    rw (p.1, p.2)
    (refuses_weaker c.in_err-join_one.field-0.0
    (λ r. (join s (view_ty x.value.ty) ≡ None) × (r ≡ Clash (view_ty first.value.ty) (view_ty x.value.ty)))
    (Apart (element_types (left is) rest))
    (λ r h.
    subst (λ (z : Refusal). Apart (element_types (left is) rest) z) (sym h.1)
    (subst (λ (ts : List Ty). Apart ts (Clash (view_ty first.value.ty) (view_ty x.value.ty))) (sym (all_types is rest))
    (parted_in type_in is c.loop-item.item-index x c.index-items-0.result (rest_types rest) s l c.item-item.is c.loop-item.invariant h.0)))
    c.in_err-join_one.ensures.refused)

pub loop-item-preserved : goal.loop-item-preserved
loop-item-preserved c =
    let l : c.loop-item.item-index < length c.args.items.now = omega arith in
    next_in type_in c.args.items.now c.loop-item.item-index c.item-item.result (option_map view_ty c.loop-item.found)
    (option_map view_ty c.join_one.new.found) l c.item-item.is c.loop-item.invariant c.in_ok-join_one.ensures.joined

pub returns-in_err-join_one-in-Some-clause-refused : goal.returns-in_err-join_one-in-Some-clause-refused
returns-in_err-join_one-in-Some-clause-refused c =
    let p = err_from_is_err_and c.from_residual-in_err-join_one-in-Some.result c.from_residual-in_err-join_one-in-Some.ensures.1 in
    let is = c.args.items.now in
    let s = option_map view_ty c.loop-item.found in
    let e : so_far None (map type_in is) ≡ Some s = whole_in type_in is c.loop-item.item-index s (omega arith) c.loop-item.invariant in
    let value = c.in-Some.value.value in
    let rest = view_optional c.args.rest.now in
    let first = view_ty c.first_type.result.now in
    let at : c.deref.result.now ≡ value = c.deref.ensures in
    let again : c.deref-in-Some.result.now ≡ value = c.deref-in-Some.ensures in
    let types : element_types (left is) rest ≡ map type_in is ++ view_ty value.ty ∷ [] =
    types_some is c.args.rest.now c.in-Some.value c.in-Some.is in
    let begins : map type_in is ++ view_ty value.ty ∷ [] ≡ first ∷ c.first_type.ensures.0 =
    ap (λ (v : Value). map type_in is ++ view_ty v.ty ∷ []) (sym at) ∙ c.first_type.ensures.1 in
    rw (p.1, p.2)
    (refuses_weaker c.in_err-join_one-in-Some.field-0.0
    (λ r. (join s (view_ty c.deref-in-Some.result.now.ty) ≡ None) × (r ≡ Clash first (view_ty c.deref-in-Some.result.now.ty)))
    (Apart (element_types (left is) rest))
    (λ r h.
    let g : join s (view_ty value.ty) ≡ None = ap (λ (v : Value). join s (view_ty v.ty)) (sym again) ∙ h.0 in
    let k : r ≡ Clash first (view_ty value.ty) = h.1 ∙ ap (λ (v : Value). Clash first (view_ty v.ty)) again in
    subst (λ (z : Refusal). Apart (element_types (left is) rest) z) (sym k)
    (parted (element_types (left is) rest) (map type_in is) [] c.first_type.ensures.0 (view_ty value.ty) first s types
    (types ∙ begins) e g))
    c.in_err-join_one-in-Some.ensures.refused)

pub returns-in-None-clause-found : goal.returns-in-None-clause-found
returns-in-None-clause-found c =
    let is = c.args.items.now in
    let s = option_map view_ty c.loop-item.found in
    let h : Joins (map type_in is) (or_nil s) =
    joins_so_far (map type_in is) s (whole_in type_in is c.loop-item.item-index s (omega arith) c.loop-item.invariant) in
    subst (λ (t : Ty). Joins (element_types (left is) (view_optional c.args.rest.now)) t) (sym c.or_nil.ensures)
    (subst (λ (ts : List Ty). Joins ts (or_nil s)) (sym (types_none is c.args.rest.now c.in-None.is)) h)

pub returns-in_ok-join_one-in-Some-clause-found : goal.returns-in_ok-join_one-in-Some-clause-found
returns-in_ok-join_one-in-Some-clause-found c =
    let is = c.args.items.now in
    let s = option_map view_ty c.loop-item.found in
    let r = option_map view_ty c.join_one-in-Some.new.found in
    let e : so_far None (map type_in is) ≡ Some s = whole_in type_in is c.loop-item.item-index s (omega arith) c.loop-item.invariant in
    let value = c.in-Some.value.value in
    let again : c.deref-in-Some.result.now ≡ value = c.deref-in-Some.ensures in
    let g : join s (view_ty value.ty) ≡ Some r =
    ap (λ (v : Value). join s (view_ty v.ty)) (sym again) ∙ c.in_ok-join_one-in-Some.ensures.joined in
    let ts = map type_in is ++ view_ty value.ty ∷ [] in
    let h : Joins ts (or_nil r) = joins_so_far ts r (one_more (map type_in is) (view_ty value.ty) s r e g) in
    subst (λ (t : Ty). Joins (element_types (left is) (view_optional c.args.rest.now)) t) (sym c.or_nil-in-Some.ensures)
    (subst (λ (us : List Ty). Joins us (or_nil r)) (sym (types_some is c.args.rest.now c.in-Some.value c.in-Some.is)) h)
