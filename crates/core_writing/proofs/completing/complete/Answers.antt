use Rattle.std.proofs.Common.{[], sym, ap, ◌∙◌}
use Rattle.limbo_types.specs.View.{view_ty}
use Rattle.limbo_layout.specs.View.{view_defs}
use Rattle.limbo_typed.specs.View.{view_node, view_expr, view_exprs, view_optional, view_place_node}
use Rattle.limbo_typed.proofs.View.{view_node-Number, view_node-Chars, view_node-Read, view_node-Part, view_node-Assign, view_node-Copy}
use Rattle.limbo_typed.proofs.View.{view_node-Channel, view_node-Call, view_node-Print, view_place-out}
use Rattle.limbo_typed.specs.Typed.{Expr}
use Rattle.limbo_meaning.specs.Program.{operands_at, printed_of, term_of}
use Rattle.core_code.specs.Terms.{types_in}
use Rattle.core_parts.specs.Lowered.{view_lowered_all}
use Rattle.core_writing.specs.Completed.{completed}
use Rattle.core_writing.specs.Operands.{operands_in, printing_node}
use Rattle.core_writing.proofs.Forms.{seen}
use Rattle.core_writing.proofs.Nodes.{channel_is, print_node_is}
use Rattle.core_writing.proofs.completing.complete.Goals as goal

pub returns-in_ok-l-in-Number : goal.returns-in_ok-l-in-Number
returns-in_ok-l-in-Number c =
    rw (seen c.args.e.now _ (ap view_node c.in-Number.is ∙ view_node-Number _))
    ((c.in_ok-l-in-Number.ensures {u = tt}) (view_defs c.args.extents.now) [])

pub returns-in_ok-l-in-Chars : goal.returns-in_ok-l-in-Chars
returns-in_ok-l-in-Chars c =
    rw (seen c.args.e.now _ (ap view_node c.in-Chars.is ∙ view_node-Chars _))
    ((c.in_ok-l-in-Chars.ensures {u = tt}) (view_defs c.args.extents.now) [])

pub returns-in_ok-l-in-Read : goal.returns-in_ok-l-in-Read
returns-in_ok-l-in-Read c =
    let at = operands_at (view_place_node c.deref.result.now.at) in
    rw (seen c.args.e.now _ (ap view_node c.in-Read.is ∙ view_node-Read _), ← c.deref.ensures, view_place-out c.deref.result.now)
    ((c.in_ok-l-in-Read.ensures {u = tt}) (types_in (view_defs c.args.extents.now) at))

pub returns-in_ok-l-in-Part : goal.returns-in_ok-l-in-Part
returns-in_ok-l-in-Part c =
    rw (seen c.args.e.now _ (ap view_node c.in-Part.is ∙ view_node-Part _ _), ← c.deref-in-Part.ensures)
    (c.in_ok-l-in-Part.ensures {u = tt})

pub returns-in_ok-l-in-Assign : goal.returns-in_ok-l-in-Assign
returns-in_ok-l-in-Assign c =
    let t = view_ty c.args.e.now.ty in
    rw (seen c.args.e.now _ (ap view_node c.in-Assign.is ∙ view_node-Assign _ _), ← c.deref-in-Assign.ensures)
    ((c.in_ok-l-in-Assign.ensures {u = tt}) (view_defs c.args.extents.now) [] t)

pub returns-in_ok-l-in-Copy : goal.returns-in_ok-l-in-Copy
returns-in_ok-l-in-Copy c =
    let t = view_ty c.args.e.now.ty in
    rw (seen c.args.e.now _ (ap view_node c.in-Copy.is ∙ view_node-Copy _ _ _))
    ((c.in_ok-l-in-Copy.ensures {u = tt}) (view_defs c.args.extents.now) [] t)

pub returns-in_ok-l-in-Channel : goal.returns-in_ok-l-in-Channel
returns-in_ok-l-in-Channel c =
    let defs = view_defs c.args.extents.now in
    rw (seen c.args.e.now _ (ap view_node c.in-Channel.is ∙ view_node-Channel _))
    ((c.in_ok-l-in-Channel.ensures {u = tt}) defs
    ∙ channel_is defs (view_ty c.args.e.now.ty) (view_optional c.in-Channel.size) (view_lowered_all c.args.all))

pub returns-in_ok-l-in-Call : goal.returns-in_ok-l-in-Call
returns-in_ok-l-in-Call c =
    let form = seen c.args.e.now _ (ap view_node c.in-Call.is ∙ view_node-Call _ _) in
    let told = rw form at (c.in_ok-l-in-Call.ensures {u = tt}) in
    rw form told

pub returns-in_ok-l-in-Print : goal.returns-in_ok-l-in-Print
returns-in_ok-l-in-Print c =
    let defs = view_defs c.args.extents.now in
    let p = c.in-Print in
    let t = view_ty c.args.e.now.ty in
    let es = view_exprs p.args.items in
    let node = print_node_is t p.printed (view_expr p.module.value) (view_optional p.file) p.format.items es in
    let form = ap (λ (x : Expr). term_of x) (seen c.args.e.now _ (ap view_node p.is ∙ view_node-Print _ _ _ _ _)) ∙ node in
    let same = ap (λ ps. printing_node p.printed t ps (view_optional p.file) (printed_of es)) c.deref-in-Print.ensures.value in
    let told = (c.in_ok-l-in-Print.ensures {u = tt}) (printed_of es) (ap operands_in (form ∙ sym same)) in
    told ∙ ap (λ x. completed defs x (view_lowered_all c.args.all)) (same ∙ sym form)
