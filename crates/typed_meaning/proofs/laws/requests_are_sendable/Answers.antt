use Rattle.typed_meaning.proofs.Sendable.{requests_are_sendable}
use Rattle.typed_meaning.proofs.laws.requests_are_sendable.Goals as goal

pub returns : goal.returns
returns c = requests_are_sendable
