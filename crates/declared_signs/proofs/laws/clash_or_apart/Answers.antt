use Rattle.declared_signs.proofs.Lists as lists
use Rattle.declared_signs.proofs.laws.clash_or_apart.Goals as goal

pub returns-clause-either : goal.returns-clause-either
returns-clause-either c = lists.clash_or_apart c.each_has_text.ensures c.clash_or_apart.ensures.either

pub returns-clause-not_both : goal.returns-clause-not_both
returns-clause-not_both c = lists.not_both c.one_text.ensures c.clash_or_apart.ensures.not_both
