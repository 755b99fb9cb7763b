use Rattle.std.proofs.Common.{◌≡◌, ◌<◌, length}
use Rattle.inf_text.specs.InFront.{number_after}
use Rattle.limbo_fields.specs.Fields.{AllDigits}
use Rattle.limbo_fields.proofs.place.number_below.Given as goal

abbrev pub invariant-loop-rest : goal.invariant-loop-rest
invariant-loop-rest l = record {
  value : number_after 0 l.digits ≡ number_after l.number l.rest;
  forth : AllDigits l.digits → AllDigits l.rest;
  back : AllDigits l.rest → AllDigits l.digits;
  less : l.number < l.bound;
}

abbrev pub decreases-loop-rest : goal.decreases-loop-rest
decreases-loop-rest l = length l.rest
