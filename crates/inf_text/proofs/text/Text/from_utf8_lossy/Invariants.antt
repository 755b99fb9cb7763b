use Rattle.std.proofs.Common.{◌++◌, List, ℕ, length}
use Rattle.inf_text.specs.Lossy.{ReadsLossy}
use Rattle.inf_text.proofs.text.Text.from_utf8_lossy.Given as goal

-- what is left to be read completes the text
abbrev pub invariant-loop-error : goal.invariant-loop-error
invariant-loop-error l = (more : List ℕ) → ReadsLossy l.rest more → ReadsLossy l.bytes (l.text ++ more)

abbrev pub decreases-loop-error : goal.decreases-loop-error
decreases-loop-error l = length l.rest
