-- The parts of an expression that what it comes to depends on.
use Rattle.std.specs.Prelude.{ℕ, List, [], ◌∷◌, ◌++◌}
use Rattle.limbo_tree.specs.Exprs as tree

-- The parts whose meaning is asked for, in order: names, `m->k` and `x.k`, each as a whole.
abbrev mutual
  pub asked : tree.Expr → List tree.Expr
  asked (tree.Name name) = tree.Name name ∷ []
  asked (tree.Arrow base name) = tree.Arrow base name ∷ []
  asked (tree.Dot base name) = tree.Dot base name ∷ []
  asked (tree.Group items) = asked_of_one items
  asked (tree.Unary op operand) = asked operand
  asked (tree.Binary op left right) = asked left ++ asked right
  asked _ = []

  -- one expression in parentheses
  pub asked_of_one : tree.Exprs → List tree.Expr
  asked_of_one (tree.MoreExprs e tree.NoExprs) = asked e
  asked_of_one _ = []

-- The strings that are written in it.
abbrev mutual
  pub written : tree.Expr → List (List ℕ)
  written (tree.Chars text) = text ∷ []
  written (tree.Group items) = written_in_one items
  written (tree.Unary op operand) = written operand
  written (tree.Binary op left right) = written left ++ written right
  written _ = []

  -- one expression in parentheses
  pub written_in_one : tree.Exprs → List (List ℕ)
  written_in_one (tree.MoreExprs e tree.NoExprs) = written e
  written_in_one _ = []
