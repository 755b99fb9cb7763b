use Rattle.std.proofs.Common.{◌≤ℤ◌}
use Rattle.std.proofs.lemmas.Result.{IfOk-weaker}
use Rattle.std.specs.Ordering.{int_cmp}
use Rattle.limbo_cases.specs.Labels.{AtMost}
use Rattle.limbo_cases.proofs.Finding.{found_by, int_at_most, at_most_int}
use Rattle.limbo_cases.proofs.overlapping.overlapping_numbers.Goals as goal

pub returns : goal.returns
returns c = IfOk-weaker c.overlap.result _ _ (λ found h. found_by (AtMost int_cmp) ◌≤ℤ◌ int_at_most at_most_int c.args.labels.now found h) c.overlap.ensures
