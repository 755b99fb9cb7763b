use Rattle.std.proofs.Common.{◌+◌, ap, sym, ◌∙◌}
use Rattle.ref_heap.specs.Store.{outside}
use Rattle.dis_memory.specs.Blocks as blocks
use Rattle.dis_places.specs.declared.memory.Memory.{Memory}
use Rattle.dis_places.specs.Blocks.{view_heap}
use Rattle.dis_places.specs.View.{view_process, view_spot, view_world}
use Rattle.dis_places.specs.Words.{view_words}
use Rattle.dis_stores.specs.Storing.{rested}
use Rattle.dis_copies.specs.Spans.{all_named}
use Rattle.dis_copies.proofs.Settling.{put_met, same_meets, same_put, untouched, words_settle}
use Rattle.dis_copies.proofs.stores.replace_words.Goals as goal

pub returns-in-Ok-exchange-clause-stores : goal.returns-in-Ok-exchange-clause-stores
returns-in-Ok-exchange-clause-stores c =
    let m = c.args.memory.now in
    let h1 = c.hold_words.new.heap in
    let x1 = blocks.with_heap (view_world m) (view_heap m.tables h1) in
    let q = view_process c.args.process.now in
    let s = view_spot c.args.spot in
    let vs = view_words c.args.words.now in (
      view_world c.exchange.new.memory,
      same_put m h1 q s c.args.from vs c.in-Ok.ensures.same
          ∙ ap rested (put_met x1 q s c.args.from vs (same_meets m h1 q s c.args.from vs c.in-Ok.ensures.same c.requires.meets))
          ∙ c.in-Ok-exchange.ensures.over,
      words_settle m c.exchange.new.memory c.args.process.now c.exchange.new.process h1 c.drop_words.new.self (all_named c.args.words.now) (all_named c.exchange.new.words)
          _ c.stands-in-Ok-exchange.ensures c.in-Ok.ensures.outside c.in-Ok-exchange.ensures.exchanges c.in-Ok-exchange.ensures.tables
          c.drop_words.ensures.drops c.drop_words.ensures.made c.drop_words.ensures.outside,
    )

pub returns-in-Err-exchange-clause-kept : goal.returns-in-Err-exchange-clause-kept
returns-in-Err-exchange-clause-kept c =
    let m = c.args.memory.now in
    let k = (c.in-Err-exchange.ensures {u = tt}).kept in
    untouched m c.exchange.new.memory c.args.process.now c.exchange.new.process c.hold_words.new.heap c.drop_words-in-Err-exchange.new.self (all_named c.exchange.new.words) _
    c.stands.ensures c.stands-in-Err-exchange.ensures
    (ap (λ (n : Memory). n.tables) k.0) (ap (λ (n : Memory). n.frames) k.0) (ap (λ (n : Memory). n.outside) k.0) (ap (λ (n : Memory). n.heap) k.0) k.1.0 c.in-Ok.ensures.same
    (λ n. c.in-Ok.ensures.outside n ∙ ap (λ ws. outside m.heap n + all_named ws n) (sym k.1.1))
    c.drop_words-in-Err-exchange.ensures.drops c.drop_words-in-Err-exchange.ensures.made c.drop_words-in-Err-exchange.ensures.outside
