use Rattle.std.proofs.Common.{[], ◌∷◌, ◌++◌, sym, ap, ◌∙◌}
use Rattle.dis_machine.specs.Running.{told_by}
use Rattle.dis_machine.specs.Frames.{requests}
use Rattle.dis_machine.specs.Kept.{frames_on}
use Rattle.dis_machine.proofs.Traces.{frames_more}
use Rattle.dis_machine.proofs.outcome.Outcome.tell.Goals as goal

pub returns-in-Asked-clause-asked : goal.returns-in-Asked-clause-asked
returns-in-Asked-clause-asked c = λ link.
    let old = c.args.self.now.outbox.items in
    ap (frames_on link) c.push_reserved.ensures.items
    ∙ frames_more link old (c.in-Asked.request ∷ [])
    ∙ ap (λ t. frames_on link old ++ requests link (told_by t)) (sym c.in-Asked.is)
