-- The types of expressions that count few bytes are small.
use Rattle.std.proofs.Common.{◌≡◌, ◌≤◌, ℕ, List, ap, ◌∙◌, arith}
use Rattle.limbo_types.specs.Types.{Ty}
use Rattle.limbo_types.specs.View.{view_ty}
use Rattle.limbo_layout.specs.Adts.{Def}
use Rattle.limbo_typed.specs.declared.expr.TExpr as code_expr
use Rattle.limbo_typed.specs.declared.expr.Place as code_place
use Rattle.limbo_typed.specs.declared.expr.TNode.TheVariants as make
use Rattle.limbo_typed.specs.declared.operation.Operation.{Operation}
use Rattle.limbo_typed.specs.View.{view_expr, view_node}
use Rattle.limbo_typed.proofs.View.{view_node-Read, view_node-Apply, view_node-Call, view_place-out}
use Rattle.limbo_meaning.specs.Operations.{size_of}
use Rattle.core_frames.specs.Sizes.{expr_size, value_size}
use Rattle.core_writing.proofs.Forms.{PlaceIn, Exprs, seen}

pub size_small : (defs : List Def) (t : Ty) → size_of defs t ≤ value_size defs t
size_small defs t = omega arith

pub small_read : (defs : List Def) (e : code_expr.TExpr) (q : PlaceIn) (v : code_place.Place) → e.node ≡ make.Read q → v ≡ q.value
    → size_of defs (view_ty v.ty) ≤ expr_size defs (view_expr e)
small_read defs e q v at ev =
    let n = size_small defs (view_ty q.value.ty) in
    rw (seen e _ (ap view_node at ∙ view_node-Read q), view_place-out q.value, ev) (omega (arith, n))

pub small_apply : (defs : List Def) (e : code_expr.TExpr) (o : Operation) (es : Exprs) → e.node ≡ make.Apply o es
    → size_of defs (view_ty e.ty) ≤ expr_size defs (view_expr e)
small_apply defs e o es at =
    let n = size_small defs (view_ty e.ty) in
    rw (seen e _ (ap view_node at ∙ view_node-Apply o es)) (omega (arith, n))

pub small_call : (defs : List Def) (e : code_expr.TExpr) (f : ℕ) (es : Exprs) → e.node ≡ make.Call f es
    → size_of defs (view_ty e.ty) ≤ expr_size defs (view_expr e)
small_call defs e f es at =
    let n = size_small defs (view_ty e.ty) in
    rw (seen e _ (ap view_node at ∙ view_node-Call f es)) (omega (arith, n))

pub ruleset smalls = (small_read, small_apply, small_call)
