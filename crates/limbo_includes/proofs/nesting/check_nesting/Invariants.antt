use Rattle.std.specs.Option.{MatchOption}
use Rattle.limbo_includes.specs.View.{given}
use Rattle.limbo_includes.specs.Links.{IsLevel, IsLost, NoneLost}
use Rattle.limbo_includes.proofs.nesting.check_nesting.Given as goal

-- the texts at this depth are marked, and above it none names a text that isn't there but the one that is kept
abbrev pub invariant-levels : goal.invariant-levels
invariant-levels l =
    let g = given l.path l.source l.shelf.texts.now in
    record {
      level : IsLevel g l.counter l.marks.items;
      lost : MatchOption l.lost (NoneLost g l.counter) (λ k. IsLost g k);
    }
