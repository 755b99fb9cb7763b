use Rattle.std.proofs.Common.{arith, ◌++◌, ap, ◌∙◌}
use Rattle.limbo_typed.specs.View.{view_expr}
use Rattle.typed_lower.specs.Statements.{effects}
use Rattle.slot_writing.specs.Weights.{weight}
use Rattle.slot_writing.specs.Written.{written}
use Rattle.slot_writing.proofs.Stated.{loaded, not_loaded}
use Rattle.slot_writing.proofs.Weighed.{weight_size}
use Rattle.slot_writing.proofs.statements.emit_done.Goals as goal

pub emit_effects-requires : goal.emit_effects-requires
emit_effects-requires c = omega (arith, ap weight c.term_of.ensures, weight_size (view_expr c.args.e.now))

pub returns-then-loads : goal.returns-then-loads
returns-then-loads c =
    ap (λ xs. xs ++ written c.args.code.now.items) (loaded (view_expr c.args.e.now) c.loads.result c.if-loads.true c.loads.ensures)

pub returns-else-loads : goal.returns-else-loads
returns-else-loads c =
    let base = written c.args.code.now.items in
    let same = ap (λ t. effects t ++ base) c.term_of.ensures
    ∙ ap (λ xs. xs ++ base) (not_loaded (view_expr c.args.e.now) c.loads.result c.if-loads.false c.loads.ensures) in
    rw (← same) c.emit_effects.ensures
