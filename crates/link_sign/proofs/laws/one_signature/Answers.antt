use Rattle.link_sign.proofs.Alone.{one_signature}
use Rattle.link_sign.proofs.laws.one_signature.Goals as goal

pub returns : goal.returns
returns c = one_signature
