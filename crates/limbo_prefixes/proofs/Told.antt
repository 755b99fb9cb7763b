-- What is answered by a test that tells exactly which value there is.
use Rattle.std.proofs.Common.{◌≡◌, Option, Some, None, option_map, sym, ◌∙◌}
use Rattle.std.specs.Prelude.{IfSome, IfNone}
use Rattle.limbo_prefixes.specs.declared.rows.OneRow as code_one
use Rattle.limbo_prefixes.specs.RowView.{view_one}
use Rattle.limbo_prefixes.specs.Rows.{OneRow}

pub one_found : (o : Option code_one.OneRow) (told : Option OneRow) (P : OneRow → Type 0) → option_map view_one o ≡ told
    → ((r : OneRow) → told ≡ Some r → P r) → IfSome o (λ r. P (view_one r))
one_found (Some r) told P e given = given (view_one r) (sym e)
one_found None told P e given = tt

pub one_absent : (o : Option code_one.OneRow) (told : Option OneRow) (P : OneRow → Type 0) → option_map view_one o ≡ told
    → ((r : OneRow) → P r → told ≡ Some r) → IfNone o ((r : OneRow) → P r → ⊥)
one_absent (Some r) told P e found = tt
one_absent None told P e found = λ r p. let f : None ≡ Some r = e ∙ found r p in absurd cc
