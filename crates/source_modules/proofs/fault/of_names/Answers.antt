use Rattle.std.proofs.Common.{ℕ, sym, subst}
use Rattle.source_names.specs.Declares as names
use Rattle.source_names.specs.declared.refusal.NamesFault.{NamesFault}
use Rattle.source_modules.specs.Failing.{Fails, by_names}
use Rattle.source_modules.proofs.fault.of_names.Goals as goal

pub returns-in-Refused : goal.returns-in-Refused
returns-in-Refused c = λ told path tree fails.
    subst (λ (z : ℕ). Fails told path tree z) (sym c.number.ensures)
    (by_names c.in-Refused.refusal (subst (λ (e : NamesFault). names.FailsBy told path tree e) c.in-Refused.is fails))
