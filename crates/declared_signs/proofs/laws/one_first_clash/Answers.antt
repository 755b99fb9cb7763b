use Rattle.declared_signs.proofs.Lists as lists
use Rattle.declared_signs.proofs.laws.one_first_clash.Goals as goal

pub returns : goal.returns
returns c = lists.one_first_clash c.one_text.ensures c.one_clash.ensures
