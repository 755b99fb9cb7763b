use Rattle.std.proofs.Common.{◌++◌, sym, ap, ◌∙◌}
use Rattle.std.proofs.lemmas.List.{append-nil}
use Rattle.limbo_entries.specs.View.{view_entry}
use Rattle.limbo_source_adts.proofs.Modules.{none_module, not_module}
use Rattle.limbo_source_adts.proofs.adts.push_module.Goals as goal

pub returns-in_default : goal.returns-in_default
returns-in_default c =
    let e = none_module (view_entry c.args.entry) (not_module c.args.entry.row.declared c.in_default.not-Module) in
    sym (ap (λ ns. c.args.names.now.items ++ ns) e ∙ append-nil c.args.names.now.items)
