use Rattle.std.proofs.Common.{arith}
use Rattle.dis_calls.proofs.Framed.{counts_fewer}
use Rattle.dis_calls.proofs.making.take_frame.Goals as goal

pub invariant_of-process : goal.invariant_of-process
invariant_of-process c =
    let p = c.args.process.now in
    record {
      once = λ n.
          let o = p.once n in
          let e = counts_fewer n p.made.items c.pop-frame.new.self.items _ c.pop-frame.ensures.items in
          omega (arith, o, e);
    }
