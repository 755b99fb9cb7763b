use Rattle.std.proofs.Common.{arith, refl, map}
use Rattle.limbo_layout.specs.View.{view_defs}
use Rattle.limbo_typed.specs.View.{view_var}
use Rattle.limbo_typed.proofs.View.{view_stmt-Block, view_stmt-Declare, view_stmt-Eval, view_stmt-If, view_stmt-While, view_stmt-Do}
use Rattle.limbo_typed.proofs.View.{view_stmt-For, view_stmt-Return}
use Rattle.core_frames.specs.Sizes.{types_in}
use Rattle.core_sizing.proofs.Large.{no_stmt_size}
use Rattle.core_sizing.proofs.frames.+frames.Goals as goal

pub stmt_fits-returns-in_default : goal.stmt_fits-returns-in_default
stmt_fits-returns-in_default t c =
    let d = c.in_default in
    let none = no_stmt_size (view_defs c.args.extents.now) (types_in (map view_var c.args.variables.now)) c.args.s.now d.not-Block
    d.not-Declare d.not-Eval d.not-If d.not-While d.not-Do d.not-For d.not-Return in
    (λ _. omega (arith, none), λ _. refl)

pub stmt_fits-returns-in-Block : goal.stmt_fits-returns-in-Block
stmt_fits-returns-in-Block t c = grind (arith, view_stmt-Block)

pub stmt_fits-returns-in-Declare : goal.stmt_fits-returns-in-Declare
stmt_fits-returns-in-Declare t c = grind (arith, view_stmt-Declare)

pub stmt_fits-returns-in-Eval : goal.stmt_fits-returns-in-Eval
stmt_fits-returns-in-Eval t c = grind (arith, view_stmt-Eval)

pub stmt_fits-returns-then-stmts_fit : goal.stmt_fits-returns-then-stmts_fit
stmt_fits-returns-then-stmts_fit t c = grind (arith, view_stmt-If)

pub stmt_fits-returns-else-stmts_fit : goal.stmt_fits-returns-else-stmts_fit
stmt_fits-returns-else-stmts_fit t c = grind (arith, view_stmt-If)

pub stmt_fits-returns-then-optional_fits : goal.stmt_fits-returns-then-optional_fits
stmt_fits-returns-then-optional_fits t c = grind (arith, view_stmt-While)

pub stmt_fits-returns-else-optional_fits : goal.stmt_fits-returns-else-optional_fits
stmt_fits-returns-else-optional_fits t c = grind (arith, view_stmt-While)

pub stmt_fits-returns-then-optional_fits-2 : goal.stmt_fits-returns-then-optional_fits-2
stmt_fits-returns-then-optional_fits-2 t c = grind (arith, view_stmt-Do)

pub stmt_fits-returns-else-optional_fits-2 : goal.stmt_fits-returns-else-optional_fits-2
stmt_fits-returns-else-optional_fits-2 t c = grind (arith, view_stmt-Do)

pub stmt_fits-returns-then-optional_fits-5 : goal.stmt_fits-returns-then-optional_fits-5
stmt_fits-returns-then-optional_fits-5 t c = grind (arith, view_stmt-For)

pub stmt_fits-returns-else-optional_fits-5 : goal.stmt_fits-returns-else-optional_fits-5
stmt_fits-returns-else-optional_fits-5 t c = grind (arith, view_stmt-For)

pub stmt_fits-returns-in-Return : goal.stmt_fits-returns-in-Return
stmt_fits-returns-in-Return t c = grind (arith, view_stmt-Return)
