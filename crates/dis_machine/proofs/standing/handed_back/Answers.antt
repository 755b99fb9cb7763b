use Rattle.std.proofs.Common.{◌++◌, ◌∷◌, [], length, sym, ap, ◌∙◌, arith, append_assoc}
use Rattle.std.specs.Vec.Iter.{into_iter_items}
use Rattle.dis_machine.specs.Standing.{objects_in}
use Rattle.dis_machine.proofs.standing.handed_back.Goals as goal

pub loop-name-preserved : goal.loop-name-preserved
loop-name-preserved c =
    let back = c.loop-name.back.items in
    let rest = into_iter_items c.next.new.self in
    let steps = c.in-Some.ensures.steps in
    let more = ap (λ xs. xs ++ objects_in rest) c.push_reserved.ensures.items
    ∙ append_assoc back ((c.in-Some.name, c.in-Some.code.object) ∷ []) (objects_in rest)
    ∙ ap (λ xs. back ++ objects_in xs) (sym steps.0)
    ∙ c.loop-name.invariant.0 in
    let room = c.loop-name.invariant.1 in
    let long = c.loop-name.invariant.2 in
    let len = c.push_reserved.ensures.len in
    let cap = c.push_reserved.ensures.capacity in
    let one = steps.1 in
    let all = ap length steps.0 in
    (more, omega (arith, room, len, cap, one), omega (arith, long, one, all))
