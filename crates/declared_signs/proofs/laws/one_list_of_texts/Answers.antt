use Rattle.declared_signs.proofs.Lists as lists
use Rattle.declared_signs.proofs.laws.one_list_of_texts.Goals as goal

pub returns-clause-some : goal.returns-clause-some
returns-clause-some c = lists.each_has_texts c.each_has_text.ensures

pub returns-clause-one : goal.returns-clause-one
returns-clause-one c = lists.one_list c.one_text.ensures
