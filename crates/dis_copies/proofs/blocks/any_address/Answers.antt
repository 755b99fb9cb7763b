use Rattle.std.proofs.Common.{refl, rules}
use Rattle.dis_copies.proofs.Changes.{takes_next, takes_whole}
use Rattle.dis_copies.proofs.blocks.any_address.Goals as goal

pub loop-k-preserved : goal.loop-k-preserved
loop-k-preserved c = λ d. takes_next d c.args.words.now c.loop-k.k _ (search rules) (c.loop-k.invariant d) (c.if-is_address.ensures refl d)

pub returns : goal.returns
returns c = λ _ d. takes_whole d c.args.words.now c.loop-k.k (search rules) (c.loop-k.invariant d)
