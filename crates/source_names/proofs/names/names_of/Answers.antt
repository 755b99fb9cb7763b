use Rattle.std.proofs.Common.{List, ap, subst}
use Rattle.limbo_includes.specs.declared.included.Standing as code_standing
use Rattle.limbo_declare.specs.Declares as scope
use Rattle.limbo_tree.specs.View.{view_source, name_of}
use Rattle.limbo_top.specs.View.{placed}
use Rattle.source_names.specs.Declares.{no_name}
use Rattle.source_names.proofs.names.names_of.Goals as goal

pub returns-in_default-clause-fails : goal.returns-in_default-clause-fails
returns-in_default-clause-fails c = λ told read.
    c.refused.ensures told c.args.path.now (view_source c.args.source.now) (no_name (ap name_of c.in_default.is))

pub returns-clause-fails : goal.returns-clause-fails
returns-clause-fails c = λ told read.
    c.of_names.ensures told (view_source c.args.source.now) (placed c.in_ok-row.row.items)
    (record { implements = ap name_of c.in-Some.is; flat = c.in_ok-row.ensures.flat told read })
    (subst (λ (z : List code_standing.Standing). scope.Fails c.in-Some.name.text (placed z) c.in-Err.fault) c.deref.ensures.value c.in-Err.ensures.fails)
