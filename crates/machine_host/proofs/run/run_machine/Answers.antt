use Rattle.std.proofs.Common.{sym, subst, ◌∙◌}
use Rattle.inf_ports.specs.Outside.{Rose}
use Rattle.dis_machine.specs.Standing.{codes, state}
use Rattle.machine_host.specs.Conversation.{Conversation}
use Rattle.machine_host.proofs.Ended.{begins_talk, done, stopped, risen, leads}
use Rattle.machine_host.proofs.run.run_machine.Goals as goal
use Rattle.machine_host.proofs.run.run_machine.Goals.{in-Ok+in-Some, in-Err}

pub returns-clause-conversation : goal.returns-clause-conversation
returns-clause-conversation g c =
    let m = c.args.machine in
    let n = c.converse.new.machine in
    let console = c.new-console.result in
    let now = c.converse.new.console in
    let held = g.K.Sink.held c.args.out.now in
    let then = g.K.Sink.held c.converse.new.out in
    let before = g.K.Sink.faults c.args.out.now in
    let after = g.K.Sink.faults c.converse.new.out in
    let begun = begins_talk m held console.failed c.requires.begun c.new-console.ensures in
    let cause = risen console.failed now.failed (Rose before after) c.new-console.ensures c.converse.ensures.failed in
    let all = c.into_parts-journal.ensures.journal in
    leads m n _ held then before after c.converse.ensures.same
    (elim c.match-converse.branch [
      | in-Ok+in-Some w ↦
          let ok = w.in-Ok.ensures {u = tt} in
          subst (λ e. Conversation (codes n) n.limit c.into_parts-journal.result.journal.events (state n) held then before after e) (sym w.end-is)
          (done n c.into_parts-journal.result.journal.events held then now.failed before after w.in-Some.end (ok.went held begun) ok.calm cause (sym w.in-Some.is ∙ w.ended.ensures) all)
      | in-Err w ↦
          let err = w.in-Err.ensures {u = tt} in
          subst (λ e. Conversation (codes n) n.limit c.into_parts-journal.result.journal.events (state n) held then before after e) (sym w.end-is)
          (stopped n c.into_parts-journal.result.journal.events held then now.failed before after (err.stopped held begun) cause all)
    ])
    c.into_parts-journal.ensures.broken
