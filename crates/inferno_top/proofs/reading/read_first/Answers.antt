use Rattle.std.proofs.Common.{List, ℕ, Err, ap, subst}
use Rattle.inf_ports.specs.declared.host_tree.HostFault.{HostFault}
use Rattle.inferno_top.specs.Reading.{IsReadFault}
use Rattle.inferno_top.proofs.Causes.{bytes_unread, first_unread}
use Rattle.inferno_top.proofs.reading.read_first.Goals as goal

pub returns-in-Err-Failed-clause-unread : goal.returns-in-Err-Failed-clause-unread
returns-in-Err-Failed-clause-unread g c = λ aim.
    first_unread aim (g.H.HostTree.told c.args.files.now) c.args.path.now (g.H.HostTree.faults c.args.files.now) (g.H.HostTree.faults
    c.read_file.new.self)
    c.unread-in-Err-Failed.result (c.in-Err-Failed.ensures.failed (ap (λ (f : HostFault). Err f) c.in-Err-Failed.field-0-is))
    c.unread-in-Err-Failed.ensures

pub returns-clause-unread : goal.returns-clause-unread
returns-clause-unread g c = λ aim.
    bytes_unread aim (g.H.HostTree.told c.args.files.now) c.args.path.now c.in-Ok.source.items (g.H.HostTree.faults c.args.files.now)
    (g.H.HostTree.faults c.read_file.new.self) c.in-Err.fault c.faulted.result c.in-Ok.ensures.found
    (subst (λ (z : List ℕ). IsReadFault z c.in-Err.fault) c.as_slice.ensures.value c.in-Err.ensures.refused) c.faulted.ensures
