use Rattle.std.proofs.Common.{refl}
use Rattle.dis_meaning.specs.Words.{Found}
use Rattle.dis_memory.specs.Places as places
use Rattle.dis_places.specs.View.{view_process, view_world}
use Rattle.dis_results.proofs.Alike.{alike_settles}
use Rattle.dis_results.proofs.Onward.{goes_on}
use Rattle.dis_slices.proofs.slices.go_by.Goals as goal

pub returns : goal.returns
returns c =
    let m = c.args.memory.now in
    let p = c.args.process.now in
    goes_on m m p p c.advance.new.process (Found (places.memory (view_world m) (view_process p)))
    (view_world m, refl, alike_settles m m p p c.stands.ensures (record { held = λ n. refl; tables = refl }))
    c.advance.ensures
