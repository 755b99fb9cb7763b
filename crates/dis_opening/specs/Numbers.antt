-- Numbers that bytes begin with.
use Rattle.std.specs.Prelude.{◌≡◌, ℕ, ◌≤◌, ◌∷◌, List, drop, length}
use Rattle.limbo_values.specs.declared.number.Kind.{Kind}
use Rattle.limbo_values.specs.declared.number.Number.{Number}
use Rattle.limbo_values.specs.Numbers.{kind_of, value_of}
use Rattle.dis_meaning.specs.Words.{Found, ◌>>=◌}
use Rattle.dis_counts.specs.Opening.{numbers, width}

-- The first of the numbers of a kind that bytes make is this one; the bytes behind it make the others.
pub record BeginsWith (kind : Kind) (bytes : List ℕ) (number : Number) : Type 0 where
  pub sort : kind_of number ≡ kind
  pub long : width kind ≤ length bytes
  pub first : numbers kind bytes ≡ (numbers kind (drop (width kind) bytes) >>= λ zs. Found (value_of number ∷ zs))
