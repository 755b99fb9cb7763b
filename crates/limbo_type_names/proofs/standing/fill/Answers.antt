use Rattle.std.proofs.Common.{◌∙◌, arith}
use Rattle.std.proofs.lemmas.Option.{slice_get_within, slice_get-get_or}
use Rattle.limbo_type_names.proofs.Filling.{ready_next, done_more}
use Rattle.limbo_type_names.proofs.standing.fill.Goals as goal

pub set_type-requires-clause-ready : goal.set_type-requires-clause-ready
set_type-requires-clause-ready c =
    ready_next c.args.naming.now c.args.order.now c.requires.behind c.loop-number.types.items c.loop-number.number-index _
    (slice_get-get_or c.args.order.now c.loop-number.number-index 0 c.loop-number-test.true) c.loop-number.invariant.done

pub loop-number-preserved : goal.loop-number-preserved
loop-number-preserved c = record {
  many = c.in-Ok.ensures.sets.same_length ∙ c.loop-number.invariant.many;
  done =
      done_more c.args.naming.now c.args.order.now c.loop-number.types.items c.set_type.new.types.items c.loop-number.number-index _ c.in-Ok.ensures.sets
      (slice_get-get_or c.args.order.now c.loop-number.number-index 0 c.loop-number-test.true) c.loop-number.invariant.done;
}

pub returns-clause-done : goal.returns-clause-done
returns-clause-done c = λ i n h. let l = slice_get_within c.args.order.now i n h in c.loop-number.invariant.done i n (omega arith) h
