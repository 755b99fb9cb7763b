use Rattle.limbo_cases.specs.Keeping.{held}
use Rattle.limbo_cases.proofs.Keeps.{kept_apart, apart_whole, held_alike}
use Rattle.limbo_cases.proofs.overlapping.overlap.Goals as goal

pub returns-in-Some : goal.returns-in-Some
returns-in-Some g c = record {
  overlaps = rw c.in-Some.is at c.in_ok-earlier.ensures;
  first = kept_apart g.met.T.Ord.total c.args.labels.now c.loop-later.later (held g.T.Ord.cmp c.loop-later.kept)
      (held_alike g.met.T.Ord.total c.loop-later.kept) c.loop-later.invariant;
}

pub returns : goal.returns
returns g c =
    apart_whole _ _ c.loop-later.later c.loop-later-test.false
    (kept_apart g.met.T.Ord.total c.args.labels.now c.loop-later.later (held g.T.Ord.cmp c.loop-later.kept)
    (held_alike g.met.T.Ord.total c.loop-later.kept) c.loop-later.invariant)
