use Rattle.std.proofs.Common.{sym, subst}
use Rattle.sys_print.specs.Sent.{IsSent}
use Rattle.machine_host.proofs.Exchanged.{Oldest, oldest}
use Rattle.machine_host.proofs.run.serve_one.Goals as goal

pub exchange-requires-clause-sent : goal.exchange-requires-clause-sent
exchange-requires-clause-sent g c =
    let f = c.in-Some.frame.items in
    let o : Oldest c.args.machine.now c.next_frame.new.self f = oldest c.args.machine.now c.next_frame.new.self f c.requires.pends c.in-Some.ensures.frame c.next_frame.ensures.kept.running in
    (o.sent.0, o.sent.1, subst (λ f. IsSent f o.sent.0.writing.tag o.sent.0.writing.asked) (sym c.deref.ensures.value) o.sent.2)
