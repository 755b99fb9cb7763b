use Rattle.ref_heap.specs.Store.{at}
use Rattle.dis_places.specs.Regions.{block_words}
use Rattle.dis_places.specs.Words.{view_words}
use Rattle.dis_stores.proofs.Blocks.{reaches, live}
use Rattle.dis_copies.specs.Spans.{over}
use Rattle.dis_copies.proofs.Datas.{data_then, err_first, proper_then}
use Rattle.dis_copies.proofs.places.exchange_reached.Goals as goal

pub exchange_block-requires-clause-live : goal.exchange_block-requires-clause-live
exchange_block-requires-clause-live c = live c.args.memory.now.tables c.args.memory.now.heap c.args.block.serial c.stands.ensures c.requires.reached

pub invariant_of-memory : goal.invariant_of-memory
invariant_of-memory c =
    let m = c.args.memory.now in
    let s = c.args.block.serial in
    record {
      proper = proper_then m.tables m.heap c.exchange_block.new.heap s (over (block_words (at m.heap s)) c.args.from (view_words c.args.words.now)) c.exchange_block.result
          (reaches m.tables m.heap s c.stands.ensures c.requires.reached) c.exchange_block.ensures.changed (err_first _ _ c.exchange_block.result c.exchange_block.ensures.kept) m.proper;
    }

pub returns-clause-over : goal.returns-clause-over
returns-clause-over c =
    let m = c.args.memory.now in
    let s = c.args.block.serial in
    data_then m c.exchange_block.new.heap s (over (block_words (at m.heap s)) c.args.from (view_words c.args.words.now)) c.exchange_block.result
    (reaches m.tables m.heap s c.stands.ensures c.requires.reached) c.exchange_block.ensures.changed
