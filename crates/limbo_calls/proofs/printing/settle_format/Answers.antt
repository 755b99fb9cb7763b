use Rattle.std.proofs.Common.{◌≡◌, ◌∙◌, List, map, refl, ap, subst}
use Rattle.limbo_types.specs.declared.ty.Ty as code_ty
use Rattle.limbo_types.specs.declared.ty.Ty.TheVariants as make
use Rattle.limbo_types.specs.View.{view_ty}
use Rattle.limbo_typed.specs.declared.print.Piece.{Piece}
use Rattle.limbo_typed.specs.Typed.{Exprs}
use Rattle.limbo_typed.specs.Sound.{holes}
use Rattle.limbo_typed.specs.View.{view_exprs}
use Rattle.limbo_refusals.specs.Refusals.{Refuses, BadFormat}
use Rattle.limbo_forms.specs.ArgTypes.{arg_types}
use Rattle.limbo_formats.specs.declared.format.FormatPart.{FormatPart}
use Rattle.limbo_formats.specs.Formats.{IsFormat, Fits}
use Rattle.limbo_arguments.specs.limbo_standing.Standing.{SettleEach}
use Rattle.limbo_arguments.specs.Failing.{FailsEach}
use Rattle.limbo_arguments.proofs.Each.{Value}
use Rattle.limbo_calls.specs.Prints.{Formats}
use Rattle.limbo_calls.proofs.Calls.{some_of, none_of}
use Rattle.limbo_calls.proofs.Prints.{no_fit, no_arguments, formats_so, refuses_as}
use Rattle.limbo_calls.proofs.printing.settle_format.Goals as goal

pub returns-in_default-2-clause-refused : goal.returns-in_default-2-clause-refused
returns-in_default-2-clause-refused c =
    let text = c.args.text.now in
    let parts = c.in-Some.parts.items in
    let args = c.args.args.items in
    let format : IsFormat text parts =
    some_of c.in_ok-parts.field-0 (λ ps. IsFormat text ps.items) c.in-Some.parts c.in-Some.is c.in_ok-parts.ensures.found in
    let none : (qs : List Piece) → Fits parts (arg_types args) qs → ⊥ =
    subst (λ (ps : List FormatPart). (qs : List Piece) → Fits ps (arg_types args) qs → ⊥) c.deref.ensures.value
    (subst (λ (es : List Value). (qs : List Piece) → Fits c.deref.result.now (arg_types es) qs → ⊥) c.deref-2.ensures.value
    (none_of c.in_ok-pieces.field-0 _ c.in_default-2.not-Some c.in_ok-pieces.ensures.none)) in
    (refl, no_fit text args parts format none)

pub returns-in-Ok-clause-settled : goal.returns-in-Ok-clause-settled
returns-in-Ok-clause-settled c =
    let text = c.args.text.now in
    let parts = c.in-Some.parts.items in
    let args = c.args.args.items in
    let pieces = c.in-Some-2.pieces.items in
    let asked = map view_ty c.in_ok-asked.asked.items in
    let format : IsFormat text parts =
    some_of c.in_ok-parts.field-0 (λ ps. IsFormat text ps.items) c.in-Some.parts c.in-Some.is c.in_ok-parts.ensures.found in
    let fits : Fits parts (arg_types args) pieces =
    subst (λ (ps : List FormatPart). Fits ps (arg_types args) pieces) c.deref.ensures.value
    (subst (λ (es : List Value). Fits c.deref.result.now (arg_types es) pieces) c.deref-2.ensures.value
    (some_of c.in_ok-pieces.field-0 (λ qs. Fits c.deref.result.now
    (arg_types c.deref-2.result.now) qs.items) c.in-Some-2.pieces c.in-Some-2.is
    c.in_ok-pieces.ensures.found)) in
    let types : asked ≡ holes pieces = c.in_ok-asked.ensures ∙ ap holes c.deref-3.ensures.value in
    let values = view_exprs c.in-Ok.values.items in
    let settled : SettleEach asked (view_exprs args) values =
    subst (λ (ts : List code_ty.Ty). SettleEach (map view_ty ts)
    (view_exprs args) values) c.deref-4.ensures.value c.in-Ok.ensures.settled in
    formats_so text args parts pieces asked values format fits types settled

pub returns-clause-refused : goal.returns-clause-refused
returns-clause-refused c =
    let text = c.args.text.now in
    let parts = c.in-Some.parts.items in
    let args = c.args.args.items in
    let pieces = c.in-Some-2.pieces.items in
    let asked = map view_ty c.in_ok-asked.asked.items in
    let format : IsFormat text parts =
    some_of c.in_ok-parts.field-0 (λ ps. IsFormat text ps.items) c.in-Some.parts c.in-Some.is c.in_ok-parts.ensures.found in
    let fits : Fits parts (arg_types args) pieces =
    subst (λ (ps : List FormatPart). Fits ps (arg_types args) pieces) c.deref.ensures.value
    (subst (λ (es : List Value). Fits c.deref.result.now (arg_types es) pieces) c.deref-2.ensures.value
    (some_of c.in_ok-pieces.field-0 (λ qs. Fits c.deref.result.now
    (arg_types c.deref-2.result.now) qs.items) c.in-Some-2.pieces c.in-Some-2.is
    c.in_ok-pieces.ensures.found)) in
    let types : asked ≡ holes pieces = c.in_ok-asked.ensures ∙ ap holes c.deref-3.ensures.value in
    let whole = view_ty make.Chars in
    let fails : Refuses c.in-Err.fault (FailsEach whole asked (view_exprs args)) =
    subst (λ (ts : List code_ty.Ty). Refuses c.in-Err.fault (FailsEach whole (map view_ty ts) (view_exprs args))) c.deref-4.ensures.value
    c.in-Err.ensures.refused in
    refuses_as c.in-Err.fault c.bad_format.result BadFormat (FailsEach whole asked (view_exprs args))
    (λ r. (r ≡ BadFormat) × ((ps : List Piece) (es : Exprs) → Formats text (view_exprs args) ps es → ⊥)) c.bad_format.ensures
    (λ r h. (refl, no_arguments text args parts pieces whole asked r format fits types h)) fails
