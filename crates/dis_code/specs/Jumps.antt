-- A process that goes on elsewhere.
use Rattle.std.specs.Prelude.{ℕ}
use Rattle.dis_meaning.specs.Process.{Process, at_pc, with_frames}

abbrev pub gone_to : Process → (pc : ℕ) → Process
gone_to p pc = with_frames p (at_pc p.frame pc) p.below p.made
