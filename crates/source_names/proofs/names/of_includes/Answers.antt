use Rattle.std.proofs.Common.{subst}
use Rattle.limbo_tree.specs.View.{view_source}
use Rattle.limbo_includes.specs.declared.fault.IncludeFault.{IncludeFault}
use Rattle.limbo_includes.specs.Refusals.{Says}
use Rattle.limbo_includes.specs.View.{given}
use Rattle.source_names.proofs.Refused.{deep_is, lacks_is, twice_is}
use Rattle.source_names.proofs.names.of_includes.Goals as goal

pub returns-in-NoInclude : goal.returns-in-NoInclude
returns-in-NoInclude c = λ told source texts says read.
    let s = subst (λ (e : IncludeFault). Says (given c.args.first.now source texts) e) c.in-NoInclude.is says in
    lacks_is told c.args.first.now source texts read c.in-NoInclude.path c.in-NoInclude.at s.0 s.1

pub returns-in-Twice : goal.returns-in-Twice
returns-in-Twice c = λ told source texts says read.
    let s = subst (λ (e : IncludeFault). Says (given c.args.first.now source texts) e) c.in-Twice.is says in
    twice_is told c.args.first.now source texts read s.0 s.1

pub returns-in-TooDeep : goal.returns-in-TooDeep
returns-in-TooDeep c = λ told source texts says read.
    c.refused.ensures told c.args.first.now (view_source source)
    (deep_is told c.args.first.now source texts read
    (subst (λ (e : IncludeFault). Says (given c.args.first.now source texts) e) c.in-TooDeep.is says))
