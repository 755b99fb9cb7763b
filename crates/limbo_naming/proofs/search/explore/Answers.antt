use Rattle.limbo_naming.proofs.Stepping.{begins, set_seen, set_here}
use Rattle.limbo_naming.proofs.search.explore.Goals as goal

pub going-init : goal.going-init
going-init c = record {
  search = rw c.in_ok-path.ensures.items (begins _ _ c.args.states.now.items c.args.number c.requires.search c.requires.fresh);
  seen = set_seen c.args.states.now.items c.args.number;
  here = set_here c.args.states.now.items c.args.number;
}
