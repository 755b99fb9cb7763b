use Rattle.std.proofs.Common.{arith, List, map, ap}
use Rattle.limbo_layout.specs.View.{view_defs}
use Rattle.limbo_typed.specs.declared.module.TVar.{TVar}
use Rattle.limbo_typed.specs.declared.stmt.TStmt.{TStmt}
use Rattle.limbo_typed.specs.View.{view_stmts, view_var}
use Rattle.core_frames.specs.Sizes.{laid_size, stmts_size, types_in}
use Rattle.core_sizing.proofs.frames.frame_fits.Goals as goal

pub returns-then-end-le-LARGEST_FRAME : goal.returns-then-end-le-LARGEST_FRAME
returns-then-end-le-LARGEST_FRAME c =
    let defs = view_defs c.args.extents.now in
    let laid = ap (λ (vs : List TVar). laid_size defs (types_in (map view_var vs))) c.deref.ensures.value in
    let types = ap (λ (vs : List TVar). stmts_size defs (types_in (map view_var vs))
    (view_stmts c.deref-then-end-le-LARGEST_FRAME-2.result.now)) c.deref-then-end-le-LARGEST_FRAME.ensures.value in
    let body = ap (λ (ss : List TStmt). stmts_size defs (types_in (map view_var c.args.f.now.variables.items)) (view_stmts ss))
    c.deref-then-end-le-LARGEST_FRAME-2.ensures.value in (
      λ t. let a = c.stmts_fit.ensures.0 t in omega (arith, c.in-Some.ensures),
      λ h. c.stmts_fit.ensures.1 (omega (arith, c.in-Some.ensures)),
    )
