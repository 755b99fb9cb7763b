use Rattle.std.proofs.Common.{inl, inr, true, ◌≡◌, ◌∙◌}
use Rattle.inferno_words.proofs.Reading.{first_true, taken, refused}
use Rattle.inferno_words.proofs.form.read.Goals as goal

pub returns-in-Ok-clause-read : goal.returns-in-Ok-clause-read
returns-in-Ok-clause-read c = taken _ _ _ (c.in-Ok.ensures.kinds c.requires) (c.in-Ok.ensures.matches (first_true _ _ c.requires)).0

pub returns-else-eq-clause-read : goal.returns-else-eq-clause-read
returns-else-eq-clause-read c = elim (c.in-Err.ensures.kinds c.requires) [
  | inl memory ↦
      let same = c.kind.ensures ∙ memory in
      let is : c.eq.result ≡ true = rw same at c.eq.ensures in
      absurd cc
  | inr among ↦ refused _ _ _ among
]
