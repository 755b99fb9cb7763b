use Rattle.std.proofs.Common.{List, ℕ, subst}
use Rattle.source_files.specs.Files.{Gives}
use Rattle.source_files.specs.Texts.{IsTextFault}
use Rattle.source_files.proofs.tree.tree_at.Goals as goal

pub returns-clause-refused : goal.returns-clause-refused
returns-clause-refused g c =
    let gives : Gives (g.H.HostTree.told c.args.files.now) c.args.path.now c.in-Some.bytes.items = (rw c.in-Some.is at c.in_ok-bytes.ensures.found) in
    c.refusal.ensures.refused (g.H.HostTree.told c.args.files.now) c.in-Some.bytes.items (g.H.HostTree.faults c.args.files.now) (g.H.HostTree.faults c.bytes_at.new.files)
    gives (subst (λ (s : List ℕ). IsTextFault s c.in-Err.fault) c.as_slice.ensures.value c.in-Err.ensures.refused)
