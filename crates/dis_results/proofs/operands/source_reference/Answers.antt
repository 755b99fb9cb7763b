use Rattle.dis_places.specs.Words.{view_word}
use Rattle.dis_results.proofs.Sources.{live_source}
use Rattle.dis_results.proofs.operands.source_reference.Goals as goal

pub returns-in-Ok-reference-clause-live : goal.returns-in-Ok-reference-clause-live
returns-in-Ok-reference-clause-live c =
    λ held. live_source c.args.memory.now c.args.process.now c.stands.ensures held c.args.source (view_word c.in-Ok.word) c.in-Ok-reference.block
    c.in-Ok.ensures c.in-Ok-reference.ensures
