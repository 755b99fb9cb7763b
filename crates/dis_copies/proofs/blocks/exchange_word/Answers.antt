use Rattle.ref_heap.specs.Words.{cell_of}
use Rattle.dis_stores.proofs.Takes.{exchanged}
use Rattle.dis_copies.proofs.Changes.{got_fits, met, one_as_it_is, takes_still}
use Rattle.dis_copies.proofs.blocks.exchange_word.Goals as goal

pub returns-clause-exchanged : goal.returns-clause-exchanged
returns-clause-exchanged c =
    let h = c.args.heap.now in
    let l = c.requires.live in
    let s = c.args.block.serial in
    let new = c.args.new in
    let t = one_as_it_is h s (cell_of new) c.stands.ensures l (c.requires.takes l.block l.live) in
    exchanged h h c.set_word.new.self s c.args.k new c.in-Ok.word t c.in-Ok.ensures
    (got_fits h s c.args.k new c.in-Ok.word l.block l.live (met h s c.args.k new l.block l.live c.requires.meets) c.in-Ok.ensures)
    (c.in-Ok-set_word.ensures.ok l.block l.live) c.in-Ok-set_word.ensures.outside

pub returns-clause-takes : goal.returns-clause-takes
returns-clause-takes c = λ b d there is.
    takes_still c.args.heap.now c.set_word.new.self c.args.block.serial c.args.k (cell_of c.args.new) b d there (c.in-Ok-set_word.ensures.ok b there) is
