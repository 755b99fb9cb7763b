use Rattle.std.proofs.Common.{rules, tests}
use Rattle.dis_calls.proofs.Found.{made_found, within_made, running_found, below_found, gone_found}
use Rattle.dis_calls.proofs.calls.made_of.Goals as goal

pub returns-then-at-eq0-clause-found : goal.returns-then-at-eq0-clause-found
returns-then-at-eq0-clause-found c = made_found c.args.process.now c.args.serial c.args.at c.in-Made.k (c.in-Made.ensures {u = tt}) c.if-at-eq0.true

pub returns-else-at-eq0-clause-wrong : goal.returns-else-at-eq0-clause-wrong
returns-else-at-eq0-clause-wrong c =
    within_made c.args.process.now c.args.serial c.args.at c.in-Made.k (c.in-Made.ensures {u = tt}) (search (rules, tests))

pub returns-in-Running-clause-wrong : goal.returns-in-Running-clause-wrong
returns-in-Running-clause-wrong c = running_found c.args.process.now c.args.serial c.args.at (c.in-Running.ensures {u = tt})

pub returns-in-Below-clause-wrong : goal.returns-in-Below-clause-wrong
returns-in-Below-clause-wrong c = below_found c.args.process.now c.args.serial c.args.at c.in-Below.field-0 (c.in-Below.ensures {u = tt})

pub returns-in-Gone-clause-wrong : goal.returns-in-Gone-clause-wrong
returns-in-Gone-clause-wrong c = gone_found c.args.process.now c.args.serial c.args.at (c.in-Gone.ensures {u = tt})
