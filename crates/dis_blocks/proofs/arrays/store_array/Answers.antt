use Rattle.std.proofs.Common.{ap}
use Rattle.ref_heap.specs.Words.{cells, naming}
use Rattle.dis_memory.specs.Blocks as blocks
use Rattle.dis_places.specs.Blocks.{type_by}
use Rattle.dis_places.specs.View.{view_process, view_spot, view_world}
use Rattle.dis_blocks.specs.Making.{made}
use Rattle.dis_blocks.proofs.Bare.{bare_stores, stores_same}
use Rattle.dis_blocks.proofs.arrays.store_array.Goals as goal

pub returns-in-Ok-clause-stores : goal.returns-in-Ok-clause-stores
returns-in-Ok-clause-stores c =
    let m = c.args.memory.now in
    let p = c.args.process.now in
    stores_same m _ p _ c.store_new.result _ _
    (ap (λ ws. made (view_world m) (view_process p) (view_spot c.args.spot) (blocks.Array (type_by m.tables c.args.element) c.args.long ws)) c.in-Ok.ensures.words)
    (bare_stores m _ p _ (naming (cells c.in-Ok.words)) c.store_new.result _ c.in-Ok.ensures.bare c.store_new.ensures.makes)
