use Rattle.dis_places.specs.Regions.{words_here}
use Rattle.dis_places.specs.View.{view_spot}
use Rattle.dis_moves.proofs.Typed.{value_live}
use Rattle.dis_moves.proofs.values.value_named.Goals as goal

pub returns-in-Ok-middle_type-clause-live : goal.returns-in-Ok-middle_type-clause-live
returns-in-Ok-middle_type-clause-live c =
    λ held. value_live c.args.memory.now c.args.process.now c.stands.ensures held (view_spot c.in-Ok.spot)
    (words_here c.args.memory.now.heap c.args.process.now c.in-Ok-reach.region) c.in-Ok-middle_type.desc.now c.in-Ok-word_number.from c.typed_words.result
    c.in-Ok-reach.ensures c.typed_words.ensures
