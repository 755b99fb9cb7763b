use Rattle.std.proofs.Common.{◌≡◌, ℕ, ◌<◌, pos}
use Rattle.dis_meaning.specs.Words.{Plain}
use Rattle.dis_memory.specs.Blocks as blocks
use Rattle.dis_blocks.proofs.arrays.is_plain.Given as goal

abbrev pub invariant-loop-k : goal.invariant-loop-k
invariant-loop-k l = (j : ℕ) → j < l.k → blocks.blank_word l.desc j ≡ Plain (pos 0)
