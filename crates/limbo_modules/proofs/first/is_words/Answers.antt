use Rattle.std.proofs.Common.{subst}
use Rattle.std.proofs.lemmas.Bool.{false≢true}
use Rattle.limbo_types.specs.Types.{Ty, ListOf, Chars}
use Rattle.limbo_types.proofs.Forms.{HasForm, has_form}
use Rattle.limbo_modules.proofs.first.is_words.Goals as goal

pub returns-in_default : goal.returns-in_default
returns-in_default c = (
  λ h. absurd (false≢true h),
  λ h.
      let f : HasForm c.args.t.now (ListOf Chars) = subst (λ (z : Ty). HasForm c.args.t.now z) h (has_form c.args.t.now) in
      absurd (c.in_default.not-List f.0 f.1),
)
