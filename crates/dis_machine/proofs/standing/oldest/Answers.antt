use Rattle.std.proofs.Common.{length, sym, ap, ◌∙◌, refl}
use Rattle.std.proofs.lemmas.Option.{slice_get_read}
use Rattle.dis_machine.proofs.Outbox.{one_off}
use Rattle.dis_machine.proofs.standing.oldest.Goals as goal

pub returns-then-requests-place : goal.returns-then-requests-place
returns-then-requests-place c = record {
  request = c.index-requests-place.result;
  there = slice_get_read c.args.requests.now (length c.args.requests.now) c.loop-place.place c.index-requests-place.result refl c.loop-place-test.true c.index-requests-place.is;
  goes = ap (λ m. m.link) c.index-requests-place.is ∙ c.if-requests-place.true;
  first = c.loop-place.invariant;
}

pub loop-place-preserved : goal.loop-place-preserved
loop-place-preserved c = one_off c.args.link c.args.requests.now c.loop-place.place c.index-requests-place.result c.loop-place-test.true c.index-requests-place.is (λ e. c.if-requests-place.false (sym (ap (λ m. m.link) c.index-requests-place.is) ∙ e)) c.loop-place.invariant
