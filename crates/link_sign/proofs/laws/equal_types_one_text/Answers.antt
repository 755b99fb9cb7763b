use Rattle.link_sign.proofs.Alone.{same_types_one_text}
use Rattle.link_sign.proofs.laws.equal_types_one_text.Goals as goal

pub returns : goal.returns
returns c = same_types_one_text
