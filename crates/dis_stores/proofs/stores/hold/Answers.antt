use Rattle.std.proofs.Common.{subst}
use Rattle.std.specs.Prelude.{IfSome}
use Rattle.ref_heap.specs.Store.{IsLive}
use Rattle.dis_stores.proofs.Settling.{hold_same}
use Rattle.dis_stores.proofs.stores.hold.Goals as goal

pub returns-in-Ok-clause-same : goal.returns-in-Ok-clause-same
returns-in-Ok-clause-same c =
    let l : IsLive c.args.heap.now c.in-Some.block.serial = subst (λ o. IfSome o (λ r. IsLive c.args.heap.now r.serial)) c.in-Some.is c.requires in
    hold_same c.args.heap.now c.hold.new.self c.in-Some.block.serial l (c.in-Ok.ensures.ok l.block l.live)
