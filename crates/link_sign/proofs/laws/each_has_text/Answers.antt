use Rattle.link_sign.proofs.Texts.{each_has_text}
use Rattle.link_sign.proofs.laws.each_has_text.Goals as goal

pub returns : goal.returns
returns c = each_has_text
