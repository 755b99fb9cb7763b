use Rattle.source_names.proofs.Refused.{no_text_there}
use Rattle.source_names.proofs.laws.no_text_declares_nothing.Goals as goal

pub returns : goal.returns
returns c = λ told path tree text es m t i n d. no_text_there told t path tree text es m i n d
