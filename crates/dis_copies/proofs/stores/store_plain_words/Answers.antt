use Rattle.std.proofs.Common.{ap, ◌∙◌, arith}
use Rattle.dis_places.specs.View.{view_process, view_spot, view_world}
use Rattle.dis_places.specs.Words.{number_of, view_words}
use Rattle.dis_stores.specs.Storing.{rested}
use Rattle.dis_copies.proofs.Settling.{plain_settle, put_met, put_wrong}
use Rattle.dis_copies.proofs.Turns.{plain_bare}
use Rattle.dis_copies.proofs.stores.store_plain_words.Goals as goal

pub returns-in-Err-clause-stores : goal.returns-in-Err-clause-stores
returns-in-Err-clause-stores c =
    put_wrong (view_world c.args.memory.now) (view_process c.args.process.now) (view_spot c.args.spot) c.args.from (view_words c.args.words.now) (number_of c.in-Err.fault) c.in-Err.ensures

pub returns-in-Ok-exchange-clause-stores : goal.returns-in-Ok-exchange-clause-stores
returns-in-Ok-exchange-clause-stores c =
    let m = c.args.memory.now in
    let vs = view_words c.args.words.now in (
      view_world c.exchange.new.memory,
      ap rested (put_met (view_world m) (view_process c.args.process.now) (view_spot c.args.spot) c.args.from vs c.in-Ok.ensures) ∙ c.in-Ok-exchange.ensures.over,
      plain_settle m c.exchange.new.memory c.args.process.now c.exchange.new.process c.args.words.now c.exchange.new.words c.stands.ensures c.requires.plain
          c.in-Ok-exchange.ensures.kinds c.in-Ok-exchange.ensures.exchanges c.in-Ok-exchange.ensures.tables,
    )

pub exchange-requires-clause-held : goal.exchange-requires-clause-held
exchange-requires-clause-held c = λ n. let b = plain_bare c.args.words.now c.requires.plain n in omega (arith, b)
