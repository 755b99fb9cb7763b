use Rattle.inf_ports.specs.Outside.{Told}
use Rattle.limbo_tree.specs.View.{view_source}
use Rattle.limbo_top.specs.View.{placed}
use Rattle.limbo_entries.specs.View.{entries_of}
use Rattle.source_names.specs.View.{AreRead}
use Rattle.source_modules.specs.Failing.{FailsBy}
use Rattle.source_modules.specs.Given.{Gives, GivesModule, FailsNamed}
use Rattle.source_modules.specs.declared.fault.ModuleFault.{ModuleFault}
use Rattle.source_modules.specs.declared.checking.Checked as code_checked
use Rattle.source_modules.proofs.Given.{if_ok, if_err, gives, fails_by}
use Rattle.source_modules.proofs.checking.check_source.Goals as goal

pub returns-in-Err-clause-fails : goal.returns-in-Err-clause-fails
returns-in-Err-clause-fails c = λ told read.
    c.of_names.ensures told c.args.path.now (view_source c.args.source.now) (c.in-Err.ensures.fails told read)

pub returns-in-Ok-clause-checked : goal.returns-in-Ok-clause-checked
returns-in-Ok-clause-checked c =
    let n = c.in-Ok.named in
    let row = placed n.row.items in
    let es = entries_of n.declarations.table.entries.items in
    let m = n.declarations.implemented in
    let path = c.args.path.now in
    let tree = view_source c.args.source.now in
    if_ok c.check_named.result (GivesModule n.name.now row es m)
    (λ (k : code_checked.Checked). (told : Told) → AreRead told path c.args.source.now c.args.texts.now → Gives told path tree k)
    (λ k g told read. gives told path tree n.name.now row es m (c.in-Ok.ensures.row told read) c.in-Ok.ensures.declares k g)
    c.check_named.ensures.checked

pub returns-in-Ok-clause-fails : goal.returns-in-Ok-clause-fails
returns-in-Ok-clause-fails c =
    let n = c.in-Ok.named in
    let row = placed n.row.items in
    let es = entries_of n.declarations.table.entries.items in
    let m = n.declarations.implemented in
    let path = c.args.path.now in
    let tree = view_source c.args.source.now in
    if_err c.check_named.result (FailsNamed n.name.now row es m)
    (λ (f : ModuleFault). (told : Told) → AreRead told path c.args.source.now c.args.texts.now → FailsBy told path tree f)
    (λ f g told read. fails_by told path tree n.name.now row es m (c.in-Ok.ensures.row told read) c.in-Ok.ensures.declares f g)
    c.check_named.ensures.fails
