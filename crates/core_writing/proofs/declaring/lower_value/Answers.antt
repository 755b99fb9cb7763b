use Rattle.std.proofs.Common.{arith, ap}
use Rattle.limbo_layout.specs.View.{view_defs}
use Rattle.limbo_typed.specs.declared.expr.TExpr.{TExpr}
use Rattle.limbo_typed.specs.View.{view_expr}
use Rattle.limbo_typed.proofs.View.{view_boxed-None, view_boxed-Some}
use Rattle.core_frames.specs.Sizes.{expr_size}
use Rattle.core_writing.proofs.declaring.lower_value.Goals as goal

pub lower_expr-requires : goal.lower_expr-requires
lower_expr-requires c =
    let defs = view_defs c.args.extents.now in
    let e = ap (λ (x : TExpr). expr_size defs (view_expr x)) c.deref.ensures in
    let size = rw (c.in-Some.is, view_boxed-Some c.in-Some.e) at c.requires in
    omega (arith, e, size)

pub returns-in_ok-l-in-Some : goal.returns-in_ok-l-in-Some
returns-in_ok-l-in-Some c = λ types.
    rw (c.in-Some.is, view_boxed-Some c.in-Some.e, ← c.deref.ensures) (c.in_ok-l-in-Some.ensures {u = tt})

pub returns-in_ok-l-in-None : goal.returns-in_ok-l-in-None
returns-in_ok-l-in-None c = λ types.
    rw (c.in-None.is, view_boxed-None) (c.in_ok-l-in-None.ensures {u = tt} (view_defs c.args.extents.now))
