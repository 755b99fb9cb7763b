-- What is answered by a test that tells exactly which value there is.
use Rattle.std.proofs.Common.{◌≡◌, Option, Some, None, option_map, sym, ◌∙◌}
use Rattle.std.specs.Prelude.{IfSome, IfNone}
use Rattle.limbo_operators.specs.declared.rows.Row as code_row
use Rattle.limbo_operators.specs.RowView.{view_row}
use Rattle.limbo_operators.specs.Rows.{Row}

pub answer_found : {A : Type 0} (o told : Option A) (P : A → Type 0) → o ≡ told → ((a : A) → told ≡ Some a → P a) → IfSome o P
answer_found (Some a) told P e given = given a (sym e)
answer_found None told P e given = tt

pub answer_absent : {A : Type 0} (o told : Option A) (P : A → Type 0) → o ≡ told → ((a : A) → P a → told ≡ Some a)
    → IfNone o ((a : A) → P a → ⊥)
answer_absent (Some a) told P e found = tt
answer_absent None told P e found = λ a p. let f : None ≡ Some a = e ∙ found a p in absurd cc

pub row_found : (o : Option code_row.Row) (told : Option Row) (P : Row → Type 0) → option_map view_row o ≡ told
    → ((r : Row) → told ≡ Some r → P r) → IfSome o (λ r. P (view_row r))
row_found (Some r) told P e given = given (view_row r) (sym e)
row_found None told P e given = tt

pub row_absent : (o : Option code_row.Row) (told : Option Row) (P : Row → Type 0) → option_map view_row o ≡ told
    → ((r : Row) → P r → told ≡ Some r) → IfNone o ((r : Row) → P r → ⊥)
row_absent (Some r) told P e found = tt
row_absent None told P e found = λ r p. let f : None ≡ Some r = e ∙ found r p in absurd cc
