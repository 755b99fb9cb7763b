use Rattle.std.proofs.Common.{arith, ◌∙◌}
use Rattle.limbo_types.proofs.View.{view_ty-Array, view_ty-List, view_ty-Chan, view_ty-Tuple}
use Rattle.limbo_allowed.proofs.Forms.{has_module_itself}
use Rattle.limbo_allowed.proofs.holding.+modules.Goals as goal

pub has_module-returns-in-Array : goal.has_module-returns-in-Array
has_module-returns-in-Array t c = grind (arith, view_ty-Array)

pub has_module-returns-in-List : goal.has_module-returns-in-List
has_module-returns-in-List t c = grind (arith, view_ty-List)

pub has_module-returns-in-Chan : goal.has_module-returns-in-Chan
has_module-returns-in-Chan t c = grind (arith, view_ty-Chan)

pub has_module-returns-in-Tuple : goal.has_module-returns-in-Tuple
has_module-returns-in-Tuple t c = grind (arith, view_ty-Tuple)

pub has_module-returns-in_default : goal.has_module-returns-in_default
has_module-returns-in_default t c =
    let d = c.in_default in
    c.is_users.ensures ∙ has_module_itself c.args.system c.args.t.now d.not-Array d.not-List d.not-Chan d.not-Tuple
