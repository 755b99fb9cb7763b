-- Variables that are laid one behind the other end no earlier than they begin.
use Rattle.std.proofs.Common.{ℕ, ◌+◌, ◌≤◌, List, [], ◌∷◌, Option, arith}
use Rattle.limbo_values.specs.declared.number.Kind.{Kind}
use Rattle.slot_code.specs.Layout.{size_of, place_for, end_of}

pub end_grows : (from : ℕ) (ks : List (Option Kind)) → from ≤ end_of from ks
end_grows from [] = omega arith
end_grows from (k ∷ ks) = omega (arith, end_grows (place_for k from + size_of k) ks)
