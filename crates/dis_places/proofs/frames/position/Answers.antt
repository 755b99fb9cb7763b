use Rattle.std.proofs.Common.{ap, ◌∙◌, arith}
use Rattle.dis_places.specs.declared.frame.Frame as code_frame
use Rattle.dis_places.specs.Frames.{view_frame}
use Rattle.dis_places.proofs.Lists.{seen}
use Rattle.dis_places.proofs.frames.position.Goals as goal

pub returns-then-frames-left-clause-found : goal.returns-then-frames-left-clause-found
returns-then-frames-left-clause-found c =
    record {
      frame = view_frame c.index-frames-left.result;
      there = seen view_frame c.args.frames.now _ c.index-frames-left.result (let w = c.loop-left.invariant.within in let t = c.loop-left-test.true in omega (arith, w, t)) c.index-frames-left.is;
      same = ap (λ (f : code_frame.Frame). f.serial) c.index-frames-left.is ∙ c.if-frames-left.true;
    }
