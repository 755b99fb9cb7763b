use Rattle.std.proofs.Common.{◌≡◌, ◌∙◌, ◌<◌, [], List, None, length, get_or, map, option_map, sym, subst, arith, append-nil}
use Rattle.std.proofs.lemmas.Result.{err_from_is_err_and}
use Rattle.limbo_types.specs.Types.{Ty}
use Rattle.limbo_types.specs.View.{view_ty}
use Rattle.limbo_typed.specs.Sound.{types_of}
use Rattle.limbo_typed.specs.View.{view_exprs}
use Rattle.limbo_refusals.specs.Refusals.{Refusal, Clash}
use Rattle.limbo_standing.specs.Joining.{Joins, join, or_nil}
use Rattle.limbo_arguments.proofs.Each.{types_are}
use Rattle.limbo_arguments.proofs.Faults.{refuses_weaker}
use Rattle.limbo_literals.specs.Refusing.{Apart}
use Rattle.limbo_literals.proofs.Elements.{Value, next_in, parted_in, whole_in, joins_so_far}
use Rattle.limbo_literals.proofs.element.common_type.Goals as goal

pub returns-in_err-join_one-clause-refused : goal.returns-in_err-join_one-clause-refused
returns-in_err-join_one-clause-refused c =
    let p = err_from_is_err_and c.from_residual.result c.from_residual.ensures.1 in
    let es = c.args.elements.now in
    let l : c.loop-element.element-index < length es = omega arith in
    let s = option_map view_ty c.loop-element.found in
    let x = c.element-item.result in
    let first = get_or es 0 c.index-elements-0.result in
    let type : Value → Ty = λ e. view_ty e.ty in
    let q : map type es ≡ types_of (view_exprs es) = sym (types_are es) in
    rw (p.1, p.2)
    (refuses_weaker c.in_err-join_one.field-0.0
    (λ r. (join s (view_ty x.ty) ≡ None) × (r ≡ Clash (view_ty first.ty) (view_ty x.ty)))
    (Apart (types_of (view_exprs es)))
    (λ r h.
    subst (λ (z : Refusal). Apart (types_of (view_exprs es)) z) (sym h.1)
    (subst (λ (ts : List Ty). Apart ts (Clash (view_ty first.ty) (view_ty x.ty))) (append-nil (map type es) ∙ q)
    (parted_in type es c.loop-element.element-index x c.index-elements-0.result [] s l c.element-item.is c.loop-element.invariant h.0)))
    c.in_err-join_one.ensures.refused)

pub loop-element-preserved : goal.loop-element-preserved
loop-element-preserved c =
    let l : c.loop-element.element-index < length c.args.elements.now = omega arith in
    let type : Value → Ty = λ e. view_ty e.ty in
    next_in type c.args.elements.now c.loop-element.element-index c.element-item.result (option_map view_ty c.loop-element.found)
    (option_map view_ty c.join_one.new.found) l c.element-item.is c.loop-element.invariant c.in_ok-join_one.ensures.joined

pub returns-clause-found : goal.returns-clause-found
returns-clause-found c =
    let es = c.args.elements.now in
    let s = option_map view_ty c.loop-element.found in
    let type : Value → Ty = λ e. view_ty e.ty in
    let h : Joins (map type es) (or_nil s) =
    joins_so_far (map type es) s (whole_in type es c.loop-element.element-index s (omega arith) c.loop-element.invariant) in
    subst (λ (t : Ty). Joins (types_of (view_exprs es)) t) (sym c.or_nil.ensures)
    (subst (λ (ts : List Ty). Joins ts (or_nil s)) (sym (types_are es)) h)
