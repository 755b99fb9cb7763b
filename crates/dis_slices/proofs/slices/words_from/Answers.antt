use Rattle.dis_slices.proofs.Elements.{taken_live}
use Rattle.dis_slices.proofs.slices.words_from.Goals as goal

pub returns-clause-live : goal.returns-clause-live
returns-clause-live c = taken_live c.args.memory.now c.args.array c.stands.ensures c.args.from c.args.count c.taken_words.result c.taken_words.ensures
