use Rattle.std.proofs.Common.{arith, ◌++◌, sym, ap, ◌∙◌}
use Rattle.limbo_typed.specs.View.{view_expr, view_boxed}
use Rattle.limbo_typed.proofs.View.{view_boxed-None, view_boxed-Some}
use Rattle.typed_meaning.specs.Program.{evaluated}
use Rattle.typed_lower.specs.Sizes.{expr_size, optional_size}
use Rattle.typed_lower.specs.Statements.{optional, done}
use Rattle.slot_writing.specs.Written.{written}
use Rattle.slot_writing.proofs.statements.emit_optional.Goals as goal

pub emit_done-requires : goal.emit_done-requires
emit_done-requires c =
    let size = ap optional_size (ap view_boxed c.in-Some.is ∙ view_boxed-Some c.in-Some.e) in
    omega (arith, size, ap (λ x. expr_size (view_expr x)) c.deref.ensures)

pub returns-in-None : goal.returns-in-None
returns-in-None c = ap (λ x. optional x ++ written c.args.code.now.items) (sym (ap view_boxed c.in-None.is ∙ view_boxed-None))

pub returns-in-Some : goal.returns-in-Some
returns-in-Some c =
    let base = written c.args.code.now.items in
    let same = ap (λ x. done (evaluated (view_expr x)) ++ base) c.deref.ensures
    ∙ ap (λ x. optional x ++ base) (sym (ap view_boxed c.in-Some.is ∙ view_boxed-Some c.in-Some.e)) in
    rw (← same) c.emit_done.ensures
