use Rattle.std.proofs.Common.{◌∙◌}
use Rattle.limbo_includes.proofs.Places.{place_within}
use Rattle.limbo_includes.proofs.shelf.Shelf.place.Goals as goal

pub returns-clause-within : goal.returns-clause-within
returns-clause-within c = place_within c.args.self.now.texts.now c.in_ok-path.path c.copied.result (c.copied.ensures ∙ c.get.ensures.value ∙ c.args.self.now.indexed c.in_ok-path.path)
