use Rattle.std.proofs.lemmas.Result.{IfOk-weaker}
use Rattle.limbo_tree.specs.View.{view_expr}
use Rattle.limbo_entries.specs.View.{view_entry}
use Rattle.limbo_constant_values.proofs.Needing.{needs_at, code_entry_is}
use Rattle.limbo_constant_values.proofs.needs.needs_of.Goals as goal

pub returns-in-Some : goal.returns-in-Some
returns-in-Some c =
    IfOk-weaker c.needs_in.result _ _ (λ row h.
    needs_at c.args.naming.now c.args.number (view_entry c.entry-entry.result) (view_expr c.in-Some.value.now) c.in-Some._iota
    (code_entry_is c.args.naming.now c.args.table.now c.args.number (view_entry c.entry-entry.result) c.requires.table c.entry-entry.ensures) c.in-Some.ensures.some
    row.items h) c.needs_in.ensures
