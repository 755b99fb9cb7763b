use Rattle.link_sign.proofs.Apart.{clash_not_apart}
use Rattle.link_sign.proofs.Either.{either}
use Rattle.link_sign.proofs.laws.clash_or_apart.Goals as goal

pub returns-clause-either : goal.returns-clause-either
returns-clause-either c = either

pub returns-clause-not_both : goal.returns-clause-not_both
returns-clause-not_both c = clash_not_apart
