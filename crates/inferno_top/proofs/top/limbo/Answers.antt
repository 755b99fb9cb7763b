use Rattle.std.proofs.Common.{refl}
use Rattle.inferno_top.proofs.top.limbo.Goals as goal

pub returns-clause-compiled : goal.returns-clause-compiled
returns-clause-compiled g c = record {
  ran = record { unstarted = c.nothing.ensures.0; none = c.nothing.ensures.1; unwritten = refl };
  left = c.compile_file-cause.ensures.left;
}
