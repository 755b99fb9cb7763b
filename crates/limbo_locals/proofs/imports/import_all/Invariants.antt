use Rattle.limbo_context.specs.View.{view_context}
use Rattle.limbo_local.specs.Local.{AreImported}
use Rattle.limbo_locals.proofs.Pushed.{first}
use Rattle.limbo_locals.proofs.imports.import_all.Given as goal

abbrev pub invariant-loop-name : goal.invariant-loop-name
invariant-loop-name l =
    AreImported (view_context l.context) l.source.origin l.source.interface (first l.name-index l.names) l.imported.items
