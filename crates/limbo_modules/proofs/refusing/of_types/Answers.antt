use Rattle.std.proofs.Common.{◌≡◌, refl, sym, ap, subst, Some, ◌∙◌}
use Rattle.limbo_causes.specs.Causes.{Cause}
use Rattle.limbo_causes.proofs.Telling.{fails_weaker}
use Rattle.limbo_type_names.specs.declared.fault.TypesFault.{TypesFault}
use Rattle.limbo_modules.specs.Failing.{type_cause}
use Rattle.limbo_modules.proofs.Telling.{type_fails}
use Rattle.limbo_modules.proofs.refusing.of_types.Goals as goal

pub returns-in-Unknown : goal.returns-in-Unknown
returns-in-Unknown c = λ name tops m h.
    type_fails c.args.table.now.entries.items m name tops c.args.fault _ c.at_declaration.result h
    (ap type_cause c.in-Unknown.is) c.at_declaration.ensures

pub returns-in-NotAType : goal.returns-in-NotAType
returns-in-NotAType c = λ name tops m h.
    type_fails c.args.table.now.entries.items m name tops c.args.fault c.no_type.result c.at_declaration-in-NotAType.result h
    (fails_weaker c.no_type.result _ _ (λ k e. ap type_cause c.in-NotAType.is ∙ ap (λ (z : Cause). Some z) (sym e)) c.no_type.ensures)
    c.at_declaration-in-NotAType.ensures

pub returns-in-TypeTooLarge : goal.returns-in-TypeTooLarge
returns-in-TypeTooLarge c = λ name tops m h.
    type_fails c.args.table.now.entries.items m name tops c.args.fault _ c.at_declaration-in-TypeTooLarge.result h
    (ap type_cause c.in-TypeTooLarge.is) c.at_declaration-in-TypeTooLarge.ensures
