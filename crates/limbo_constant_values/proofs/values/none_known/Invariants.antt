use Rattle.std.proofs.Common.{◌≡◌, ℕ, Option, None, Some, length, slice_get}
use Rattle.limbo_constants.specs.declared.constant.Constant as constant
use Rattle.limbo_constant_values.proofs.values.none_known.Given as goal

abbrev pub invariant-loop : goal.invariant-loop
invariant-loop l = record {
  many : length l.values.items ≡ l.counter;
  none : (k : ℕ) (v : Option constant.Constant) → slice_get l.values.items k ≡ Some v → v ≡ None;
}
