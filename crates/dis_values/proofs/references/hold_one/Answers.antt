use Rattle.std.proofs.Common.{◌≡◌, Ok, Err, ◌∙◌, sym}
use Rattle.dis_values.proofs.Referring.{can_hold, holds_one}
use Rattle.dis_values.proofs.references.hold_one.Goals as goal

pub unreachable-requires : goal.unreachable-requires
unreachable-requires c =
    let r = can_hold c.args.heap.now c.args.r.serial c.requires in
    let f : Err c.in-Err.field-0 ≡ Ok tt = sym c.in-Err.is ∙ c.hold.ensures.answer ∙ r.2 in
    cc

pub returns-clause-held : goal.returns-clause-held
returns-clause-held c =
    let r = can_hold c.args.heap.now c.args.r.serial c.requires in
    holds_one c.args.heap.now c.hold.new.self c.args.r.serial r.0 r.1 (c.in-Ok.ensures.ok r.0 r.1)
