use Rattle.std.proofs.Common.{◌≡◌, List}
use Rattle.std.proofs.lemmas.Result.{err_from_is_err_and}
use Rattle.limbo_typed.specs.declared.print.Piece.{Piece}
use Rattle.limbo_typed.specs.Typed.{Exprs}
use Rattle.limbo_typed.specs.View.{view_expr, view_exprs, view_optional}
use Rattle.limbo_refusals.specs.Refusals.{NoneIs, BadFormat}
use Rattle.limbo_arguments.proofs.Faults.{refuses_weaker}
use Rattle.limbo_calls.specs.OutputView.{view_output}
use Rattle.limbo_calls.specs.Prints.{Formats, Prints}
use Rattle.limbo_calls.specs.Refusing.{RefusesPrint, no_format}
use Rattle.limbo_calls.proofs.Prints.{print_none}
use Rattle.limbo_calls.proofs.printing.print.Goals as goal

pub returns-in_err-format-clause-refused : goal.returns-in_err-format-clause-refused
returns-in_err-format-clause-refused c =
    let p = err_from_is_err_and c.from_residual-in_err-format.result c.from_residual-in_err-format.ensures.1 in
    let o = view_output c.args.output in
    let es = view_exprs c.args.args.items in
    let i = view_expr c.args.instance.value in
    let text = c.args.text.now in
    rw (p.1, p.2)
    (refuses_weaker c.in_err-format.field-0.0
    (λ r. (r ≡ BadFormat) × ((ps : List Piece) (vs : Exprs) → Formats text es ps vs → ⊥))
    (λ r. RefusesPrint c.args.fd o text es r × NoneIs (Prints c.args.fd o i text es))
    (λ r h. print_none c.args.fd o i text es r
    (no_format c.in_ok-printed.printed (view_optional c.in_ok-printed.file) c.in_ok-printed.ensures.settled h.1 h.0))
    c.in_err-format.ensures.refused)
