use Rattle.link_sign.proofs.Texts.{one_text}
use Rattle.link_sign.proofs.laws.one_text.Goals as goal

pub returns : goal.returns
returns c = one_text
