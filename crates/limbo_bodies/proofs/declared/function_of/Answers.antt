use Rattle.std.proofs.Common.{sym, ◌∙◌}
use Rattle.limbo_tree.specs.View.{name_of}
use Rattle.limbo_entries.specs.View.{entries_of}
use Rattle.limbo_bodies.proofs.Declaring.{no_function}
use Rattle.limbo_bodies.proofs.declared.function_of.Goals as goal

pub returns-in-None-function_at-clause-none : goal.returns-in-None-function_at-clause-none
returns-in-None-function_at-clause-none c =
    no_function (entries_of c.args.table.now.entries.items) c.args.implemented c.args.function.now.name.text c.requires.once (name_of
    c.args.function.now.part) c.in-Some.number
    c.args.meanings.now c.requires.meanings c.in-Some.ensures.some (sym c.function_at.ensures ∙ c.in-None-function_at.is)
