use Rattle.std.proofs.Common.{List, map, ap, subst}
use Rattle.std.proofs.lemmas.Result.{err_from_is_err_and}
use Rattle.limbo_types.specs.Types.{Ty, Adt}
use Rattle.limbo_types.specs.declared.ty.Ty as code_ty
use Rattle.limbo_types.specs.declared.ty.Ty.TheVariants as make
use Rattle.limbo_types.specs.View.{view_ty}
use Rattle.limbo_types.proofs.View.{view_ty-Adt}
use Rattle.limbo_layout.specs.View.{view_defs}
use Rattle.limbo_typed.specs.View.{view_exprs}
use Rattle.limbo_refusals.specs.Refusals.{Refuses, NoneIs, Clash}
use Rattle.limbo_arguments.specs.Failing.{FailsEach}
use Rattle.limbo_arguments.proofs.Faults.{refuses_weaker, refuses_that}
use Rattle.limbo_calls.specs.Calls.{Constructs, FieldsOf}
use Rattle.limbo_calls.specs.Refusing.{RefusesConstruct}
use Rattle.limbo_calls.specs.Refusing as refusing
use Rattle.limbo_calls.proofs.Calls.{construct_none, some_of, none_of}
use Rattle.limbo_calls.proofs.calling.construct.Goals as goal

pub returns-in_default-clause-refused : goal.returns-in_default-clause-refused
returns-in_default-clause-refused c =
    let defs = view_defs c.args.adts.now in
    let es = view_exprs c.args.args.items in
    let whole = view_ty (make.Adt c.args.adt) in
    let none : NoneIs (FieldsOf defs c.args.adt c.args.variant) =
    none_of c.in_ok-fields.field-0 _ c.in_default.not-Some c.in_ok-fields.ensures.none in
    refuses_that c.clash_of.result (Clash whole whole)
    (λ r. RefusesConstruct defs c.args.adt c.args.variant es r × NoneIs (Constructs defs c.args.adt c.args.variant es))
    (construct_none defs c.args.adt c.args.variant es (Clash whole whole)
    (refusing.no_value none (ap (λ t. Clash t t) (view_ty-Adt c.args.adt))))
    c.clash_of.ensures

pub returns-in_err-values-clause-refused : goal.returns-in_err-values-clause-refused
returns-in_err-values-clause-refused c =
    let p = err_from_is_err_and c.from_residual-in_err-values.result c.from_residual-in_err-values.ensures.1 in
    let defs = view_defs c.args.adts.now in
    let es = view_exprs c.args.args.items in
    let f = c.in_err-values.field-0.0 in
    let ts = map view_ty c.in-Some.fields.items in
    let fields : FieldsOf defs c.args.adt c.args.variant ts =
    some_of c.in_ok-fields.field-0 (λ us. FieldsOf defs c.args.adt c.args.variant (map view_ty us.items)) c.in-Some.fields c.in-Some.is
    c.in_ok-fields.ensures.found in
    rw (p.1, p.2)
    (refuses_weaker f (FailsEach (Adt c.args.adt) ts es)
    (λ r. RefusesConstruct defs c.args.adt c.args.variant es r × NoneIs (Constructs defs c.args.adt c.args.variant es))
    (λ r h. construct_none defs c.args.adt c.args.variant es r (refusing.unlike_field ts fields h))
    (subst (λ (t : Ty). Refuses f (FailsEach t ts es)) (view_ty-Adt c.args.adt)
    (subst (λ (us : List code_ty.Ty). Refuses f (FailsEach (view_ty (make.Adt c.args.adt)) (map view_ty us) es)) c.deref.ensures.value
    c.in_err-values.ensures.refused)))
