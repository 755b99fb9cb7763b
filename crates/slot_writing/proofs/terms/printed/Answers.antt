use Rattle.std.proofs.Common.{◌≡◌, sym, ap, ◌∙◌}
use Rattle.limbo_types.specs.Types.{Byte}
use Rattle.limbo_types.specs.View.{view_ty}
use Rattle.limbo_types.proofs.View.{view_ty-Byte}
use Rattle.limbo_typed.specs.Typed.{Of}
use Rattle.limbo_typed.specs.View.{view_expr, view_node}
use Rattle.limbo_typed.proofs.View.{view_expr-out}
use Rattle.typed_meaning.specs.Program.{term_of}
use Rattle.slot_writing.specs.Terms as terms
use Rattle.slot_writing.proofs.terms.printed.Goals as goal

pub returns-in-Byte : goal.returns-in-Byte
returns-in-Byte c =
    let e = c.args.e.now in
    let is : view_expr e ≡ Of Byte (view_node e.node) = view_expr-out e ∙ ap (λ t. Of t (view_node e.node)) (ap view_ty c.in-Byte.is
    ∙ view_ty-Byte) in
    ap (λ x. terms.widened (term_of x)) is ∙ sym (ap terms.printed is)
