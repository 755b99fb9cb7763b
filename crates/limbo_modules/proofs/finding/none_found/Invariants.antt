use Rattle.std.proofs.Common.{◌≡◌, ℕ, length, Option, None, Some}
use Rattle.std.specs.Prelude.{slice_get}
use Rattle.limbo_modules.specs.declared.finding.Found as code_found
use Rattle.limbo_modules.proofs.finding.none_found.Given as goal

abbrev pub invariant-loop : goal.invariant-loop
invariant-loop l = record {
  many : length l.found.items ≡ l.counter;
  none : (n : ℕ) (o : Option code_found.Found) → slice_get l.found.items n ≡ Some o → o ≡ None;
}
