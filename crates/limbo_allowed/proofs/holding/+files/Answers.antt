use Rattle.std.proofs.Common.{arith}
use Rattle.limbo_types.proofs.View.{view_ty-Array, view_ty-List, view_ty-Chan, view_ty-Tuple, view_ty-Adt}
use Rattle.limbo_allowed.proofs.Forms.{holds_no_fd}
use Rattle.limbo_allowed.proofs.holding.+files.Goals as goal

pub holds_fd-returns-in-Array : goal.holds_fd-returns-in-Array
holds_fd-returns-in-Array t c = grind (arith, view_ty-Array)

pub holds_fd-returns-in-List : goal.holds_fd-returns-in-List
holds_fd-returns-in-List t c = grind (arith, view_ty-List)

pub holds_fd-returns-in-Chan : goal.holds_fd-returns-in-Chan
holds_fd-returns-in-Chan t c = grind (arith, view_ty-Chan)

pub holds_fd-returns-in-Tuple : goal.holds_fd-returns-in-Tuple
holds_fd-returns-in-Tuple t c = grind (arith, view_ty-Tuple)

pub holds_fd-returns-in-Adt : goal.holds_fd-returns-in-Adt
holds_fd-returns-in-Adt t c = grind (arith, view_ty-Adt)

pub holds_fd-returns-in_default : goal.holds_fd-returns-in_default
holds_fd-returns-in_default t c =
    let d = c.in_default in
    holds_no_fd c.args.fd c.args.t.now d.not-Array d.not-List d.not-Chan d.not-Tuple d.not-Adt
