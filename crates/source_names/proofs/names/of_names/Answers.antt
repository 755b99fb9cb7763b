use Rattle.std.proofs.Common.{subst}
use Rattle.limbo_declare.specs.declared.fault.NameFault.{NameFault}
use Rattle.limbo_declare.specs.Declares as scope
use Rattle.source_names.specs.Declares.{twice, unknown, no_module, not_constant}
use Rattle.source_names.proofs.names.of_names.Goals as goal

pub returns-in-Twice : goal.returns-in-Twice
returns-in-Twice c = λ told tree row has fails.
    c.refused.ensures told c.args.first.now tree
    (twice c.args.name.now.text row has (subst (λ (e : NameFault). scope.Fails c.args.name.now.text row e) c.in-Twice.is fails))

pub returns-in-Unknown : goal.returns-in-Unknown
returns-in-Unknown c = λ told tree row has fails.
    c.refused-in-Unknown.ensures told c.args.first.now tree
    (unknown c.args.name.now.text row has (subst (λ (e : NameFault). scope.Fails c.args.name.now.text row e) c.in-Unknown.is fails))

pub returns-in-NoModule : goal.returns-in-NoModule
returns-in-NoModule c = λ told tree row has fails.
    c.refused-in-NoModule.ensures told c.args.first.now tree
    (no_module c.args.name.now.text row has (subst (λ (e : NameFault). scope.Fails c.args.name.now.text row e) c.in-NoModule.is fails))

pub returns-in-NotConstant : goal.returns-in-NotConstant
returns-in-NotConstant c = λ told tree row has fails.
    c.refused-in-NotConstant.ensures told c.args.first.now tree
    (not_constant c.args.name.now.text row has (subst (λ (e : NameFault). scope.Fails c.args.name.now.text row e) c.in-NotConstant.is fails))
