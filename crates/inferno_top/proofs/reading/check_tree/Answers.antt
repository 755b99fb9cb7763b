use Rattle.std.proofs.Common.{List, sym, subst}
use Rattle.limbo_includes.specs.declared.included.Included.{Included}
use Rattle.limbo_tree.specs.View.{view_source}
use Rattle.source_names.specs.View.{AreRead}
use Rattle.source_names.proofs.Read.{are_texts}
use Rattle.inferno_top.specs.Reading.{IsUnchecked}
use Rattle.inferno_top.specs.declared.cause.Cause.{Cause}
use Rattle.inferno_top.proofs.Causes.{files_unchecked, checking_unchecked}
use Rattle.inferno_top.proofs.reading.check_tree.Goals as goal

pub returns-in-Err-clause-unchecked : goal.returns-in-Err-clause-unchecked
returns-in-Err-clause-unchecked g c =
    let told = g.H.HostTree.told c.args.files.now in
    let before = g.H.HostTree.faults c.args.files.now in
    let now = g.H.HostTree.faults c.read_included.new.files in
    subst (λ (x : Cause). IsUnchecked told c.args.path.now (view_source c.args.tree.now) before now x) (sym c.of_files.ensures)
    (files_unchecked told c.args.path.now c.args.tree.now before now c.in-Err.fault c.in-Err.ensures.refused c.in-Err.ensures.own)

pub returns-in-Ok-check_source-clause-checked : goal.returns-in-Ok-check_source-clause-checked
returns-in-Ok-check_source-clause-checked g c =
    let told = g.H.HostTree.told c.args.files.now in
    let read : AreRead told c.args.path.now c.args.tree.now c.deref.result.now =
    subst (λ (z : List Included). AreRead told c.args.path.now c.args.tree.now z) (sym c.deref.ensures.value)
    (record { named = c.in-Ok.ensures.named; whole = c.in-Ok.ensures.whole }) in
    c.in-Ok-check_source.ensures.checked told read

pub returns-clause-unchecked : goal.returns-clause-unchecked
returns-clause-unchecked g c =
    let told = g.H.HostTree.told c.args.files.now in
    let before = g.H.HostTree.faults c.args.files.now in
    let now = g.H.HostTree.faults c.read_included.new.files in
    let read : AreRead told c.args.path.now c.args.tree.now c.deref.result.now =
    subst (λ (z : List Included). AreRead told c.args.path.now c.args.tree.now z) (sym c.deref.ensures.value)
    (record { named = c.in-Ok.ensures.named; whole = c.in-Ok.ensures.whole }) in
    subst (λ (x : Cause). IsUnchecked told c.args.path.now (view_source c.args.tree.now) before now x) (sym c.of_checking.ensures)
    (checking_unchecked told c.args.path.now (view_source c.args.tree.now) before now c.in-Err-check_source.fault
    (λ t. are_texts told t c.args.path.now c.args.tree.now c.deref.result.now read) (c.in-Err-check_source.ensures.fails told read))
