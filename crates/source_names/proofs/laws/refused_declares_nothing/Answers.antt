use Rattle.source_names.proofs.Refused.{refused}
use Rattle.source_names.proofs.laws.refused_declares_nothing.Goals as goal

pub returns : goal.returns
returns c = λ told path tree refusal es m t f d. refused told t path tree refusal es m f d
