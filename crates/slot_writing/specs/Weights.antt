-- How deep the temporaries of a term may go: three for each node of it are enough.
use Rattle.std.specs.Prelude.{ℕ, ◌+◌}
use Rattle.typed_meaning.specs.Trees.{Term, Deciding, Apply, Lazy, Store, Change, Call, Print, Terms, NoTerms, MoreTerms}

abbrev mutual
  pub weight : Term → ℕ
  weight (Apply o ts) = 3 + weights ts
  weight (Lazy c l r) = 3 + (weight l + weight r)
  weight (Deciding r) = 3 + weight r
  weight (Store p t) = 3 + weight t
  weight (Change o g p ts) = 3 + weights ts
  weight (Call t f ts) = 3 + weights ts
  weight (Print ps ts) = 3 + weights ts
  weight t = 3

  pub weights : Terms → ℕ
  weights NoTerms = 0
  weights (MoreTerms t ts) = weight t + weights ts
