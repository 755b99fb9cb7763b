use Rattle.std.proofs.Common.{sym, subst}
use Rattle.dis_memory.specs.Places as meaning
use Rattle.dis_places.specs.Regions.{words_here}
use Rattle.dis_places.specs.View.{view_process, view_spot, view_world}
use Rattle.dis_places.specs.Words.{GivesFault}
use Rattle.dis_places.proofs.Regions.{in_region}
use Rattle.dis_places.proofs.spots.reach.Goals as goal

pub returns-in-Data : goal.returns-in-Data
returns-in-Data c =
    let m = c.args.memory.now in
    let p = c.args.process.now in
    subst
    (λ s. GivesFault (λ g. words_here m.heap p g) c.data_of.result (meaning.words_at (view_world m) (view_process p) (view_spot s)))
    (sym c.in-Data.is)
    (in_region m.heap p p.frame.instance c.data_of.result _ c.data_of.ensures.region (c.data_of.ensures.words m.tables))
