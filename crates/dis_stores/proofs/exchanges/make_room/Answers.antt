use Rattle.std.proofs.Common.{sym, subst}
use Rattle.ref_heap.specs.Words.{cell_of, MayTake}
use Rattle.dis_stores.proofs.Takes.{takes_as_it_is, takes_widened, takes_plain, takes_refer}
use Rattle.dis_stores.proofs.exchanges.make_room.Goals as goal

pub returns-in-Ok-clause-takes : goal.returns-in-Ok-clause-takes
returns-in-Ok-clause-takes c =
    takes_widened c.args.heap.now c.widen.new.self c.args.block.serial (cell_of c.args.new) c.requires
    (c.in-Ok.ensures.ok c.requires.block c.requires.live) c.in-Ok.ensures.outside

pub returns-in-Plain-clause-takes : goal.returns-in-Plain-clause-takes
returns-in-Plain-clause-takes c =
    takes_as_it_is c.args.heap.now c.args.block.serial (cell_of c.args.new) c.stands.ensures c.requires
    (subst (λ w. MayTake c.requires.block.content (cell_of w)) (sym c.in-Plain.is) (takes_plain c.requires.block.content c.in-Plain.field-0))

pub returns-in-Refer-clause-takes : goal.returns-in-Refer-clause-takes
returns-in-Refer-clause-takes c =
    takes_as_it_is c.args.heap.now c.args.block.serial (cell_of c.args.new) c.stands.ensures c.requires
    (subst (λ w. MayTake c.requires.block.content (cell_of w)) (sym c.in-Refer.is) (takes_refer c.requires.block.content _))
