use Rattle.std.proofs.Common.{arith}
use Rattle.std.proofs.lemmas.Option.{slice_get_within}
use Rattle.limbo_order.proofs.Places.{set_same}
use Rattle.limbo_order.proofs.Steps.{begins, rests, done_then}
use Rattle.limbo_order.proofs.ordering.put.Goals as goal

pub going-init : goal.going-init
going-init c = record {
  searches = begins _ _ _ _ _ c.in_ok-path.path.items c.args.number c.in_ok-path.ensures.items c.requires.undone c.requires.searches;
  entered = set_same c.args.search.now.entered.items c.args.number (let l = slice_get_within c.args.search.now.done.items c.args.number _ c.requires.undone in let a = c.requires.searches.entered_length in let b = c.requires.searches.done_length in omega arith);
  keeps = λ n h. h;
}

pub returns-clause-searches : goal.returns-clause-searches
returns-clause-searches c = rests _ _ _ _ _ _ (grind arith) c.going.invariant.searches

pub returns-clause-done : goal.returns-clause-done
returns-clause-done c = done_then _ _ _ _ _ _ c.going.invariant.searches c.args.number (grind arith) c.going.invariant.entered
