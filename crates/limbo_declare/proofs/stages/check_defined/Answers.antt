use Rattle.std.proofs.Common.{List, subst}
use Rattle.limbo_top.specs.declared.tops.Definition as code_definition
use Rattle.limbo_defined.specs.declared.fault.DefinedFault.{DefinedFault}
use Rattle.limbo_defined.specs.declared.fault.DefinedFault.TheVariants.{Twice, Undefined, Undeclared}
use Rattle.limbo_defined.specs.Refusals.{IsRefused}
use Rattle.limbo_declare.proofs.Failing.{fails_second, fails_lacking, fails_undeclared_at}
use Rattle.limbo_declare.proofs.stages.check_defined.Goals as goal

pub returns-in-Err-Twice-clause-fails : goal.returns-in-Err-Twice-clause-fails
returns-in-Err-Twice-clause-fails c = λ implements tops a.
    fails_second implements tops c.args.top.now a c.in-Err-Twice.path c.in-Err-Twice.at
    (subst (λ (z : List code_definition.Definition). IsRefused c.args.top.now.members.rows.items c.args.top.now.names.rows.items z (Twice c.in-Err-Twice.path c.in-Err-Twice.at)) c.deref.ensures.value
    (subst (λ (z : DefinedFault). IsRefused c.args.top.now.members.rows.items c.args.top.now.names.rows.items c.deref.result.now z) c.in-Err-Twice.field-0-is c.in-Err-Twice.ensures.refused))

pub returns-in-Err-Undefined-clause-fails : goal.returns-in-Err-Undefined-clause-fails
returns-in-Err-Undefined-clause-fails c = λ implements tops a.
    fails_lacking implements tops c.args.top.now a c.in-Err-Undefined.path.now c.in-Err-Undefined.at
    (subst (λ (z : List code_definition.Definition). IsRefused c.args.top.now.members.rows.items c.args.top.now.names.rows.items z (Undefined c.in-Err-Undefined.path c.in-Err-Undefined.at)) c.deref.ensures.value
    (subst (λ (z : DefinedFault). IsRefused c.args.top.now.members.rows.items c.args.top.now.names.rows.items c.deref.result.now z) c.in-Err-Undefined.field-0-is c.in-Err-Undefined.ensures.refused))

pub returns-in-Err-Undeclared-clause-fails : goal.returns-in-Err-Undeclared-clause-fails
returns-in-Err-Undeclared-clause-fails c = λ implements tops a.
    fails_undeclared_at implements tops c.args.top.now a c.in-Err-Undeclared.path c.in-Err-Undeclared.at
    (subst (λ (z : List code_definition.Definition). IsRefused c.args.top.now.members.rows.items c.args.top.now.names.rows.items z (Undeclared c.in-Err-Undeclared.path c.in-Err-Undeclared.at)) c.deref.ensures.value
    (subst (λ (z : DefinedFault). IsRefused c.args.top.now.members.rows.items c.args.top.now.names.rows.items c.deref.result.now z) c.in-Err-Undeclared.field-0-is c.in-Err-Undeclared.ensures.refused))
