use Rattle.std.proofs.Common.{refl, rules, tests}
use Rattle.dis_formats.proofs.Fronts.{verb_at, big_at}
use Rattle.dis_formats.proofs.verbs.verb_of.Goals as goal

pub returns-in-37-clause-verb : goal.returns-in-37-clause-verb
returns-in-37-clause-verb c = λ x words from.
    verb_at x words from c.args.behind.now c.in-Some.rest.now c.in-Some.first.now 37 c.in-Some.ensures.cases.0 c.in-37.is refl

pub returns-in-100-clause-verb : goal.returns-in-100-clause-verb
returns-in-100-clause-verb c = λ x words from.
    verb_at x words from c.args.behind.now c.in-Some.rest.now c.in-Some.first.now 100 c.in-Some.ensures.cases.0 c.in-100.is refl

pub returns-then-second-eq-DECIMAL-clause-verb : goal.returns-then-second-eq-DECIMAL-clause-verb
returns-then-second-eq-DECIMAL-clause-verb c = λ x words from.
    big_at x words from c.args.behind.now c.in-Some.rest.now c.in-Some-split_first.rest.now c.in-Some.first.now c.in-Some-split_first.second.now
    c.in-Some.ensures.cases.0 c.in-98.is c.in-Some-split_first.ensures.cases.0 (search (rules, tests))

pub returns-in-99-clause-verb : goal.returns-in-99-clause-verb
returns-in-99-clause-verb c = λ x words from.
    verb_at x words from c.args.behind.now c.in-Some.rest.now c.in-Some.first.now 99 c.in-Some.ensures.cases.0 c.in-99.is refl

pub returns-in-120-clause-verb : goal.returns-in-120-clause-verb
returns-in-120-clause-verb c = λ x words from.
    verb_at x words from c.args.behind.now c.in-Some.rest.now c.in-Some.first.now 120 c.in-Some.ensures.cases.0 c.in-120.is refl

pub returns-in-115-clause-verb : goal.returns-in-115-clause-verb
returns-in-115-clause-verb c = λ x words from.
    verb_at x words from c.args.behind.now c.in-Some.rest.now c.in-Some.first.now 115 c.in-Some.ensures.cases.0 c.in-115.is refl
