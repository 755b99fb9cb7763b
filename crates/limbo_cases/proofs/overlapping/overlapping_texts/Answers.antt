use Rattle.std.proofs.Common.{ℕ, List, refl}
use Rattle.std.proofs.lemmas.Result.{IfOk-weaker}
use Rattle.std.specs.Borrow.{Bor}
use Rattle.std.proofs.lemmas.Cmp.{nat_list_cmp_total}
use Rattle.std.specs.Cmp.{on_total}
use Rattle.limbo_cases.proofs.Finding.{found_in}
use Rattle.limbo_cases.proofs.overlapping.overlapping_texts.Goals as goal

pub returns : goal.returns
returns c =
    IfOk-weaker c.overlap.result _ _
    (λ found h. found_in (on_total (λ (b : Bor (List ℕ)). b.now) nat_list_cmp_total) nat_list_cmp_total (λ (b : Bor (List ℕ)). b.now) (λ x y. refl) c.args.labels.now found h)
    c.overlap.ensures
