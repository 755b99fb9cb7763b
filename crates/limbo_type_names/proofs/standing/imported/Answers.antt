use Rattle.std.proofs.Common.{sym, subst}
use Rattle.limbo_types.specs.Types.{Ty}
use Rattle.limbo_entries.specs.View.{view_entry}
use Rattle.limbo_naming.proofs.Direct.{lacks_declared}
use Rattle.limbo_type_names.specs.Means as means
use Rattle.limbo_type_names.specs.Means.{Stands}
use Rattle.limbo_type_names.specs.Needs.{of_import}
use Rattle.limbo_type_names.specs.Working.{entries_in}
use Rattle.limbo_type_names.proofs.standing.imported.Goals as goal

pub type_at-requires : goal.type_at-requires
type_at-requires c = record {
  known = c.requires.ready c.in-Found.other (of_import (view_entry c.args.entry) c.args.source.now.text c.requires.there c.requires.is c.in-Found.ensures.declared);
}

pub returns-in_ok-copy_of-in-Some : goal.returns-in_ok-copy_of-in-Some
returns-in_ok-copy_of-in-Some c =
    let n = c.args.known.naming.now in
    means.imported c.args.number (view_entry c.args.entry) c.args.source.now.text c.in-Found.other _ c.requires.there c.requires.is c.in-Found.ensures.declared
    (subst (λ (z : Ty). Stands (entries_in n) n.implemented c.in-Found.other z) (sym c.in_ok-copy_of-in-Some.ensures) c.in-Some.ensures.some)

pub returns-in-None : goal.returns-in-None
returns-in-None c =
    means.imports_other c.args.number (view_entry c.args.entry) c.args.source.now.text c.in-Found.other c.requires.there c.requires.is c.in-Found.ensures.declared
    c.in-None.ensures.none

pub returns-in-Unknown : goal.returns-in-Unknown
returns-in-Unknown c =
    let n = c.args.known.naming.now in
    means.imports_nothing c.args.number (view_entry c.args.entry) c.args.source.now.text c.requires.there c.requires.is
    (λ j d. lacks_declared (entries_in n) n.implemented c.args.entry.within c.requires.sees.names.sight.once _ j c.in-Unknown.ensures.declared d)

pub returns-in-Nothing : goal.returns-in-Nothing
returns-in-Nothing c =
    means.imports_nothing c.args.number (view_entry c.args.entry) c.args.source.now.text c.requires.there c.requires.is c.in-Nothing.ensures.declared.1
