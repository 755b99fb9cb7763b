use Rattle.std.proofs.Common.{sym, subst}
use Rattle.dis_memory.specs.Places as meaning
use Rattle.dis_places.specs.Regions.{words_here}
use Rattle.dis_places.specs.View.{view_place, view_process, view_world}
use Rattle.dis_places.specs.Words.{GivesFault}
use Rattle.dis_places.proofs.Regions.{in_region}
use Rattle.dis_places.proofs.spots.place_of.Goals as goal

pub returns-in-Block : goal.returns-in-Block
returns-in-Block c =
    let m = c.args.memory.now in
    let p = c.args.process.now in
    subst
    (λ q. GivesFault (λ g. words_here m.heap p g) c.data_of.result (meaning.words_of (view_world m) (view_process p) (view_place q)))
    (sym c.in-Block.is)
    (in_region m.heap p c.in-Block.block c.data_of.result _ c.data_of.ensures.region (c.data_of.ensures.words m.tables))
