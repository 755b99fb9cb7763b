use Rattle.std.proofs.Common.{refl, sym, ◌∙◌}
use Rattle.limbo_causes.specs.declared.fault.Cause.TheVariants as told_cause
use Rattle.limbo_local.specs.Failing as failing
use Rattle.limbo_locals.proofs.Rules.{nothing_fails}
use Rattle.limbo_locals.proofs.imports.source_of.Goals as goal

pub returns-in_default-clause-refused : goal.returns-in_default-clause-refused
returns-in_default-clause-refused c n = failing.unseen (sym c.look_up.ensures ∙ c.in_default.is)

pub returns-in-None-clause-refused : goal.returns-in-None-clause-refused
returns-in-None-clause-refused c =
    nothing_fails c.clash_of.result (told_cause.Refused c.clash_of.result) _ refl c.clash_of.ensures
    (λ n. failing.no_module c.in-Some.meaning (sym c.look_up.ensures ∙ c.in-Some.is) (sym c.module_led.ensures ∙ c.in-None.is))
