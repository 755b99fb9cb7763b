-- What the first token stands for, by a table of tokens, and what follows it.
use Rattle.std.specs.Prelude.{List, [], ◌∷◌, Option, Some, None}
use Rattle.limbo_lexer.specs.declared.token.Kind.{Kind}
use Rattle.limbo_reading.specs.Reading.{choose}

abbrev pub front : {A : Type 0} → (Kind → Option A) → List Kind → Option (A × List Kind)
front table [] = None
front table (t ∷ ts) = choose (table t) None λ x. Some (x, ts)
