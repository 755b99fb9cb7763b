use Rattle.dis_places.specs.View.{view_process, view_spot, view_world}
use Rattle.dis_places.specs.Words.{number_of, view_words}
use Rattle.dis_copies.proofs.Settling.{put_wrong}
use Rattle.dis_copies.proofs.stores.store_words.Goals as goal

pub returns-in-Err-clause-stores : goal.returns-in-Err-clause-stores
returns-in-Err-clause-stores c =
    put_wrong (view_world c.args.memory.now) (view_process c.args.process.now) (view_spot c.args.spot) c.args.from (view_words c.args.words.now) (number_of c.in-Err.fault) c.in-Err.ensures
