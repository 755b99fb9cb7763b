use Rattle.link_sign.proofs.Apart.{one_clash}
use Rattle.link_sign.proofs.laws.one_clash.Goals as goal

pub returns : goal.returns
returns c = one_clash
