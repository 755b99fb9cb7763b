use Rattle.std.proofs.Common.{◌≡◌, ◌+◌, ◌*◌, pos, subst, arith, rules, w64, to_z}
use Rattle.std.proofs.lemmas.Int.{to_z_pos}
use Rattle.dis_kinds.specs.Views.{view_elements}
use Rattle.dis_places.specs.View.{view_process, view_world}
use Rattle.dis_meaning.specs.Places.{Far}
use Rattle.dis_meaning.specs.Words.{InBlock}
use Rattle.dis_moves.specs.Moves.{moved_to}
use Rattle.dis_results.specs.Going.{Goes}
use Rattle.dis_results.proofs.Onward.{goes_same}
use Rattle.dis_slices.proofs.Put.{bytes_put}
use Rattle.dis_slices.proofs.slices.copy_bytes.Goals as goal

pub returns-clause-goes : goal.returns-clause-goes
returns-clause-goes c =
    let m = c.args.memory.now in
    let s = view_elements m c.args.source in
    let t = view_elements m c.args.target in
    let from = c.in-Ok.from in
    let count = c.in-Ok-few.count in
    let to = c.in-Ok-product.to in
    let e : from ≡ s.start * s.element.size = search rules in
    let f : count ≡ s.long * s.element.size = search rules in
    let g : to ≡ (t.start + c.args.at) * t.element.size = search rules in
    let small = (c.in-Ok-product.ensures {u = tt}).small in
    let z : to_z w64 to ≡ pos to = to_z_pos w64 to (omega (arith, small)) in
    goes_same m c.move_to.new.memory c.args.process.now c.move_to.new.process c.move_to.result _ _
    (bytes_put (view_world m) (view_process c.args.process.now) s t c.args.at c.requires.array from count to e f g)
    (subst
    (λ j. Goes m c.args.process.now c.move_to.result (moved_to (view_world m) (view_process c.args.process.now) s.words from count (Far (InBlock t.array) j)) c.move_to.new.memory c.move_to.new.process)
    z c.move_to.ensures.goes)
