use Rattle.link_sign.proofs.Alone.{none_is_print}
use Rattle.link_sign.proofs.laws.none_is_print.Goals as goal

pub returns : goal.returns
returns c = none_is_print
