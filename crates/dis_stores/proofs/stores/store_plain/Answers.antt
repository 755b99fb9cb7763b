use Rattle.dis_places.specs.View.{view_process, view_spot, view_world}
use Rattle.dis_places.specs.Words.{view_word}
use Rattle.dis_stores.proofs.Cuts.{store_fits}
use Rattle.dis_stores.proofs.Settling.{plain_settles}
use Rattle.dis_stores.proofs.stores.store_plain.Goals as goal

pub returns-in-Ok-clause-stores : goal.returns-in-Ok-clause-stores
returns-in-Ok-clause-stores c =
    let m = c.args.memory.now in
    let p = c.args.process.now in
    let old = c.in-Ok.field-0 in
    let fit = store_fits (view_world m) (view_process p) (view_spot c.args.spot) (view_word c.args.new) (view_word old) _ c.in-Ok.ensures.gives c.in-Ok.ensures.stood in (
      view_world c.put.new.memory,
      c.in-Ok.ensures.gives,
      plain_settles m c.put.new.memory p c.put.new.process c.args.new old c.stands.ensures c.requires.plain fit c.in-Ok.ensures.exchanges c.in-Ok.ensures.tables,
    )
