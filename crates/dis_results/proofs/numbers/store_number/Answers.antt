use Rattle.dis_places.specs.View.{view_world}
use Rattle.dis_results.proofs.Alike.{alike_settles}
use Rattle.dis_results.proofs.numbers.store_number.Goals as goal

pub returns-in-Ok-clause-stores : goal.returns-in-Ok-clause-stores
returns-in-Ok-clause-stores c = (
  view_world c.put_number.new.memory,
  c.in-Ok.ensures.gives,
  alike_settles c.args.memory.now c.put_number.new.memory c.args.process.now c.put_number.new.process c.stands.ensures c.in-Ok.ensures.alike,
)
