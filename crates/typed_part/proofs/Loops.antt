-- How many loops there are around.
use Rattle.std.proofs.Common.{◌≡◌, ℕ, suc, sym, ap, ◌∙◌}
use Rattle.typed_part.specs.declared.inside.Loops.{Loops-F, fold-roll-Loops}
use Rattle.typed_part.specs.declared.inside.Loops.TheVariants as make
use Rattle.typed_part.specs.Seen.{loops_step, depth}

pub depth-Outside : depth make.Outside ≡ 0
unfolding depth
depth-Outside = ap depth (sym make.rolls-Outside) ∙ fold-roll-Loops ℕ loops_step Loops-F.Outside

pub depth-Within : (l : _) → depth (make.Within l) ≡ suc (depth l.now)
unfolding depth
depth-Within l = ap depth (sym (make.rolls-Within l)) ∙ fold-roll-Loops ℕ loops_step (Loops-F.Within l)

pub ruleset the_depth = (depth-Outside, depth-Within)
