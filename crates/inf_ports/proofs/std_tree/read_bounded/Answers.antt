use Rattle.std.proofs.Common.{arith}
use Rattle.inf_ports.proofs.Growing.{told-short}
use Rattle.inf_ports.proofs.std_tree.read_bounded.Goals as goal

pub returns-in-Ok-clause-whole : goal.returns-in-Ok-clause-whole
returns-in-Ok-clause-whole g c =
    let started = c.new-bytes.ensures in
    let cut = c.take-first.ensures in
    let bytes = c.read_to_end.new.buf in
    let read = rw (cut.limit, cut.inner, started.items) at c.in-Ok.ensures.bytes in
    told-short (g.F.Read.remaining c.args.file) 1073741824 bytes.items read
    (omega (arith, bytes.ok.0, c.in-Ok.ensures.ok, started.len))
