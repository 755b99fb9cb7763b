use Rattle.std.proofs.Common.{sym, arith}
use Rattle.std.specs.List.{Contains}
use Rattle.limbo_type_names.specs.Means.{no_more}
use Rattle.limbo_type_names.specs.Working.{entries_in}
use Rattle.limbo_type_names.proofs.Composing.{mean_more}
use Rattle.limbo_headers.proofs.Telling.{one_fails}
use Rattle.limbo_headers.proofs.headings.types_in.Goals as goal

pub loop-of-init : goal.loop-of-init
loop-of-init c = rw c.new-types.ensures.items (no_more c.args.scope)

pub returns-in-Err-clause-fails : goal.returns-in-Err-clause-fails
returns-in-Err-clause-fails c =
    let n = c.args.names.now.naming.now in
    one_fails (entries_in n) n.implemented c.args.scope (Contains c.args.written.now) c.of-item.result (c.loop-of.of-index, omega arith, sym c.of-item.is) c.in-Err.fault
    c.in-Err.ensures.fails

pub loop-of-preserved : goal.loop-of-preserved
loop-of-preserved c =
    let n = c.args.names.now.naming.now in
    rw c.in_ok-push-in-Ok.ensures.items
    (mean_more (entries_in n) n.implemented c.args.scope c.args.written.now c.loop-of.of-index c.of-item.result c.loop-of.types.items c.in-Ok.ty (omega arith) c.of-item.is
    c.loop-of.invariant c.in-Ok.ensures.means)
