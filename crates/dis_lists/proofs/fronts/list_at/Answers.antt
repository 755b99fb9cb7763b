use Rattle.dis_places.specs.View.{view_spot}
use Rattle.dis_places.specs.Words.{view_word}
use Rattle.dis_lists.proofs.Linked.{live_there}
use Rattle.dis_lists.proofs.fronts.list_at.Goals as goal

pub returns-in-Ok-clause-live : goal.returns-in-Ok-clause-live
returns-in-Ok-clause-live c =
    λ held. live_there c.args.memory.now c.args.process.now c.stands.ensures held (view_spot c.args.spot) (view_word c.in-Ok.word) c.reference.result
    c.in-Ok.ensures c.reference.ensures
