use Rattle.std.proofs.Common.{◌≡◌, true, false, List, map, refl, sym, subst, rules}
use Rattle.std.proofs.lemmas.Result.{err_from_is_err_and}
use Rattle.limbo_types.specs.Types.{Module}
use Rattle.limbo_types.specs.declared.ty.Ty as code_ty
use Rattle.limbo_types.specs.View.{view_ty, view_fn}
use Rattle.limbo_typed.specs.Sound.{type_of}
use Rattle.limbo_typed.specs.View.{view_expr, view_exprs}
use Rattle.limbo_refusals.specs.Refusals.{Refuses, NoneIs, ModuleValue}
use Rattle.limbo_arguments.specs.limbo_standing.Standing.{SettleEach}
use Rattle.limbo_arguments.specs.Failing.{FailsEach}
use Rattle.limbo_arguments.proofs.Faults.{refuses_weaker}
use Rattle.limbo_calls.specs.Calls.{CallsThrough, PassesNone}
use Rattle.limbo_calls.specs.Refusing.{RefusesThrough}
use Rattle.limbo_calls.specs.Refusing as refusing
use Rattle.limbo_calls.proofs.Calls.{through_none, through_type}
use Rattle.limbo_calls.proofs.calling.call_through.Goals as goal

pub returns-in_err-values-clause-refused : goal.returns-in_err-values-clause-refused
returns-in_err-values-clause-refused c =
    let p = err_from_is_err_and c.from_residual.result c.from_residual.ensures.1 in
    let of = view_fn c.args.of.now in
    let es = view_exprs c.args.args.items in
    let i = view_expr c.args.instance.value in
    let f = c.in_err-values.field-0.0 in
    let b : c.is_same.result ≡ true = search rules in
    let t : type_of i ≡ Module c.args.interface =
    through_type c.args.instance.value c.deref.result.now c.args.interface c.is_same.result c.deref.ensures c.is_same.ensures b in
    rw (p.1, p.2)
    (refuses_weaker f (FailsEach of.answer of.args es)
    (λ r. RefusesThrough c.args.system i c.args.interface of es r
    × NoneIs (CallsThrough c.args.system i c.args.interface c.args.function of es))
    (λ r h. through_none c.args.system i c.args.interface c.args.function of es r (refusing.unlike t h))
    (subst (λ (ts : List code_ty.Ty). Refuses f (FailsEach of.answer (map view_ty ts) es)) c.deref-2.ensures.value
    c.in_err-values.ensures.refused))

pub returns-then-not-passes_none-clause-refused : goal.returns-then-not-passes_none-clause-refused
returns-then-not-passes_none-clause-refused c =
    let of = view_fn c.args.of.now in
    let es = view_exprs c.args.args.items in
    let vs = view_exprs c.in_ok-values.values.items in
    let i = view_expr c.args.instance.value in
    let b : c.is_same.result ≡ true = search rules in
    let t : type_of i ≡ Module c.args.interface =
    through_type c.args.instance.value c.deref.result.now c.args.interface c.is_same.result c.deref.ensures c.is_same.ensures b in
    let arguments : SettleEach of.args es vs =
    subst (λ (ts : List code_ty.Ty). SettleEach (map view_ty ts) es vs) c.deref-2.ensures.value c.in_ok-values.ensures.settled in
    let passes : PassesNone c.args.system of.args → ⊥ = λ h.
    let g : c.passes_none.result ≡ true =
    c.passes_none.ensures.1
    (subst (λ (ts : List code_ty.Ty). PassesNone c.args.system (map view_ty ts)) (sym c.deref-3.ensures.value) h) in
    let n : c.passes_none.result ≡ false = search rules in
    cc in
    through_none c.args.system i c.args.interface c.args.function of es ModuleValue (refusing.passes vs t arguments passes refl)
