use Rattle.dis_opening.proofs.opening.settle.Goals as goal
use Rattle.dis_opening.proofs.Beginning.{settled_so}

pub returns : goal.returns
returns c = settled_so c.args.loading c.drop_words.new.self _ c.deref.result.now c.stands.ensures c.deref.ensures.value c.requires c.drop_words.ensures.drops c.drop_words.ensures.made c.drop_words.ensures.outside
