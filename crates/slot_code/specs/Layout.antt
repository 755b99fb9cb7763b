-- Where variables stand, one behind the other, each at the next place that suits it: a byte takes one byte, an int or a reference four, a
-- big eight, each at a multiple of its size.
use Rattle.std.specs.Prelude.{ℕ, zero, suc, ◌+◌, List, [], ◌∷◌, Option, Some, None}
use Rattle.std.specs.Int.{next_multiple_of}
use Rattle.limbo_values.specs.declared.number.Kind.{Kind}
use Rattle.limbo_values.specs.declared.number.Kind.TheVariants.{Byte, Int, Big}

abbrev pub number_size : Kind → ℕ
number_size Byte = 1
number_size Int = 4
number_size Big = 8

-- a reference takes a word
abbrev pub size_of : Option Kind → ℕ
size_of None = 4
size_of (Some k) = number_size k

-- the next place for one, from a place on
abbrev pub place_for : Option Kind → (from : ℕ) → ℕ
place_for k from = next_multiple_of from (size_of k)

-- where the one of this number stands, of some that are laid from a place on, and where they end
abbrev pub place_in : (from : ℕ) → List (Option Kind) → (number : ℕ) → ℕ
place_in from [] n = from
place_in from (k ∷ ks) zero = place_for k from
place_in from (k ∷ ks) (suc n) = place_in (place_for k from + size_of k) ks n

abbrev pub end_of : (from : ℕ) → List (Option Kind) → ℕ
end_of from [] = from
end_of from (k ∷ ks) = end_of (place_for k from + size_of k) ks
