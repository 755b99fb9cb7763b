use Rattle.std.specs.Str.{IsUtf8}
use Rattle.std.proofs.Common.{ℕ, sym, subst, Vec, Global}
use Rattle.std.proofs.lemmas.Str.{IsUtf8-string_bytes}
use Rattle.inf_text.proofs.text.Text.to_utf8.Goals as goal

pub returns-clause-well_formed : goal.returns-clause-well_formed
returns-clause-well_formed c =
    let P : Vec ℕ Global → Type 0 = λ v. IsUtf8 v.items in
    subst P (sym c.into_bytes.ensures.value) (IsUtf8-string_bytes c.in_ok-spelling.spelling)
