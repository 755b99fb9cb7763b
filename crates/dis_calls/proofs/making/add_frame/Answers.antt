use Rattle.dis_places.specs.declared.frame.Frame as code_frame
use Rattle.dis_places.specs.View.{view_world}
use Rattle.dis_calls.proofs.Framed.{made_once}
use Rattle.dis_calls.proofs.making.add_frame.Goals as goal

pub invariant_of-process : goal.invariant_of-process
invariant_of-process c =
    let p = c.args.process.now in
    let m = c.args.memory.now in
    let made : code_frame.Frame = record { serial = m.frames; instance = p.frame.instance; pc = 0; words = c.args.words } in
    record { once = made_once (view_world m) p made c.push_reserved.new.self.items c.requires.given (λ i. m.frames) c.push_reserved.ensures.items }
