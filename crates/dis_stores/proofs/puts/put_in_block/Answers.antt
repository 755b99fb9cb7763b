use Rattle.std.proofs.Common.{ap}
use Rattle.dis_meaning.specs.Words.{◌>>=◌, stored}
use Rattle.dis_memory.specs.Places.{with_data}
use Rattle.dis_places.specs.View.{view_world}
use Rattle.dis_places.specs.Words.{view_word}
use Rattle.dis_stores.proofs.puts.put_in_block.Goals as goal

pub put_reached-requires-clause-reached : goal.put_reached-requires-clause-reached
put_reached-requires-clause-reached c = (c.in-Ok.ensures {u = tt}).words c.args.memory.now.tables

pub returns-in-Err-clause-gives : goal.returns-in-Err-clause-gives
returns-in-Err-clause-gives c =
    let x = view_world c.args.memory.now in
    ap (λ a. a >>= (λ ws. stored ws c.args.at (view_word c.args.new)) >>= with_data x c.args.block.serial)
    ((c.in-Err.ensures {u = tt}).words c.args.memory.now.tables)
